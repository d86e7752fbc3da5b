-- The law of siblings, from what is kept.
use Rattle.std.proofs.Common.{◌<◌, ℕ, List, arith}
use Rattle.sched_model.specs.declared.event.Entry.{Entry}
use Rattle.sched_model.specs.declared.machine.Machine.{Machine}
use Rattle.sched_model.specs.Runs.{IsRun}
use Rattle.sched_model.specs.CheckedMachine.{IsChecked, IsGranularity}
use Rattle.sched_laws.specs.StateLaws.{state_after, SiblingsRunOneUnit}
use Rattle.sched_laws.proofs.PoolsLaw.{known_in_runs}
use Rattle.sched_laws.proofs.Sound.{cores_are_sound}
use Rattle.sched_laws.specs.PoolFacts.{AreSound}

pub some_processor : (g : ℕ) → IsGranularity g → 0 < g
some_processor g is = grind arith

pub siblings_run_one_unit : (m : Machine) → IsChecked m → (entries : List Entry) → IsRun m entries → SiblingsRunOneUnit m.config.granularity (state_after m entries)
siblings_run_one_unit m checked entries run n pool at r c has i p is =
    let g = m.config.granularity in
    let sound = (known_in_runs m (AreSound g) (cores_are_sound g (some_processor g checked.config.granularity)) checked entries run).pools n pool at r c has in
    record { unit = λ v does. (sound.guests i p v is does).0; place = λ v does. (sound.guests i p v is does).1 }

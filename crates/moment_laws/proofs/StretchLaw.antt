-- The law of stretches: what it needs of the states of runs, and the law.
use Rattle.std.proofs.Common.{◌≡◌, ◌≤◌, true, List, ◌++◌, arith, length}
use Rattle.sched_model.specs.declared.event.Entry.{Entry}
use Rattle.sched_model.specs.declared.machine.Machine.{Machine}
use Rattle.sched_model.specs.CheckedMachine.{IsChecked}
use Rattle.sched_model.specs.Runs.{IsRun, run_start}
use Rattle.sched_laws.specs.StateLaws.{state_after}
use Rattle.sched_laws.proofs.StillWaits.{split_run}
use Rattle.moment_laws.specs.Stretches.{open_legs, is_stretch, most_in_stretch}
use Rattle.moment_laws.specs.Turns.{most_turns}
use Rattle.moment_laws.proofs.StretchFalls.{stretch_falls}
use Rattle.moment_laws.proofs.TurnsBound.{turns_left_most, most_turns_fit}
use Rattle.moment_laws.proofs.ArincOneCore as arinc_one_core
use Rattle.moment_laws.proofs.LegRuns.{rtds_left, credit2_holds}
use Rattle.moment_laws.proofs.ReachedDecisions.{StretchFacts, bounded, decides_well_next}

-- an ARINC 653 pool has one core, and the unit of a core whose leg began at this moment was charged at this moment
pub stretch_facts : (m : Machine) → IsChecked m → StretchFacts m
stretch_facts m checked = record {
  one_core = λ before pool of arinc is q r x c at_q at_r. arinc_one_core.one_core m checked before pool of arinc is q r x c at_q at_r;
  rtds_left = rtds_left m checked;
  credit2_holds = credit2_holds m checked;
}

-- each entry of a stretch takes a turn, and so many there are
pub stretch_ends : (m : Machine) → IsChecked m → (before stretch : List Entry) → IsRun m (before ++ stretch) → is_stretch (open_legs m before) stretch ≡ true → length stretch ≤ most_turns m
stretch_ends m checked before stretch run is =
    let facts = stretch_facts m checked in
    let parts = split_run m (run_start m) before stretch run in
    let a = stretch_falls m checked (decides_well_next m checked facts) stretch before run is in
    let b = turns_left_most m (state_after m before) (λ i pool at. bounded m checked before pool (record { run = parts.0; i = i; at = at })) in
    omega (arith, a, b)

pub stretch_in_numbers : (m : Machine) → IsChecked m → (before stretch : List Entry) → IsRun m (before ++ stretch) → is_stretch (open_legs m before) stretch ≡ true → length stretch ≤ most_in_stretch m
stretch_in_numbers m checked before stretch run is = (let a = stretch_ends m checked before stretch run is in let b = most_turns_fit m in omega (arith, a, b))

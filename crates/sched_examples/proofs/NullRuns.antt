-- Null pools, computed.
use Rattle.std.proofs.Common.{refl}
use Rattle.sched_examples.specs.Words.{RunsAs, IsSoundFor}
use Rattle.sched_examples.specs.Null.{machine_core_is_kept, entries_core_is_kept, machine_no_weight, entries_no_weight, machine_core_is_freed, entries_core_is_freed, machine_core_is_kept_while_away, entries_core_is_kept_while_away, machine_cores_of_four, entries_cores_of_four}

pub core_is_kept-run : RunsAs machine_core_is_kept entries_core_is_kept
unfolding machine_core_is_kept entries_core_is_kept
core_is_kept-run = refl

pub core_is_kept-sound : IsSoundFor 19 machine_core_is_kept
unfolding machine_core_is_kept
core_is_kept-sound = refl

pub no_weight-run : RunsAs machine_no_weight entries_no_weight
unfolding machine_no_weight entries_no_weight
no_weight-run = refl

pub no_weight-sound : IsSoundFor 20 machine_no_weight
unfolding machine_no_weight
no_weight-sound = refl

pub core_is_freed-run : RunsAs machine_core_is_freed entries_core_is_freed
unfolding machine_core_is_freed entries_core_is_freed
core_is_freed-run = refl

pub core_is_freed-sound : IsSoundFor 21 machine_core_is_freed
unfolding machine_core_is_freed
core_is_freed-sound = refl

pub core_is_kept_while_away-run : RunsAs machine_core_is_kept_while_away entries_core_is_kept_while_away
unfolding machine_core_is_kept_while_away entries_core_is_kept_while_away
core_is_kept_while_away-run = refl

pub core_is_kept_while_away-sound : IsSoundFor 28 machine_core_is_kept_while_away
unfolding machine_core_is_kept_while_away
core_is_kept_while_away-sound = refl

pub cores_of_four-run : RunsAs machine_cores_of_four entries_cores_of_four
unfolding machine_cores_of_four entries_cores_of_four
cores_of_four-run = refl

pub cores_of_four-sound : IsSoundFor 46 machine_cores_of_four
unfolding machine_cores_of_four
cores_of_four-sound = refl

-- A machine as users have one, computed.
use Rattle.std.proofs.Common.{refl}
use Rattle.sched_examples.specs.Words.{BeginsWith, IsSoundFor}
use Rattle.sched_examples.specs.Realistic.{machine_first_entries, entries_first_entries}

pub first_entries-run : BeginsWith machine_first_entries entries_first_entries
unfolding machine_first_entries entries_first_entries
first_entries-run = refl

pub first_entries-sound : IsSoundFor 150 machine_first_entries
unfolding machine_first_entries
first_entries-sound = refl

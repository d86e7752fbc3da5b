-- Cores of two processors, computed.
use Rattle.std.proofs.Common.{refl}
use Rattle.sched_examples.specs.Words.{RunsAs, IsSoundFor}
use Rattle.sched_examples.specs.Siblings.{machine_siblings_meet, entries_siblings_meet, machine_sibling_stalls, entries_sibling_stalls}

pub siblings_meet-run : RunsAs machine_siblings_meet entries_siblings_meet
unfolding machine_siblings_meet entries_siblings_meet
siblings_meet-run = refl

pub siblings_meet-sound : IsSoundFor 15 machine_siblings_meet
unfolding machine_siblings_meet
siblings_meet-sound = refl

pub sibling_stalls-run : RunsAs machine_sibling_stalls entries_sibling_stalls
unfolding machine_sibling_stalls entries_sibling_stalls
sibling_stalls-run = refl

pub sibling_stalls-sound : IsSoundFor 18 machine_sibling_stalls
unfolding machine_sibling_stalls
sibling_stalls-sound = refl

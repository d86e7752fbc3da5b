use Rattle.std.proofs.Common.{◌≡◌}
use Rattle.std.specs.Prelude.{map}
use Rattle.sched_model.specs.Places.{numbers_from}
use Rattle.sched_model.specs.State.{has_core_bit}
use Rattle.cpupool.proofs.opening.flags_of.Given as goal

abbrev pub invariant-loop-r : goal.invariant-loop-r
invariant-loop-r l = l.flags ≡ map (has_core_bit l.set.0) (numbers_from 0 l.r)

use Rattle.std.proofs.Common.{◌≡◌}
use Rattle.std.specs.Prelude.{map}
use Rattle.sched_model.specs.Places.{numbers_from}
use Rattle.sched_model.specs.Opening.{free_core_at_opening}
use Rattle.plain_opening.proofs.cores.free_cores.Given as goal

abbrev pub invariant-loop-r : goal.invariant-loop-r
invariant-loop-r l = l.places.items ≡ map (free_core_at_opening l.config) (numbers_from 0 l.r)

use Rattle.std.proofs.Common.{◌≡◌}
use Rattle.std.specs.Prelude.{map}
use Rattle.sched_model.specs.Places.{numbers_from}
use Rattle.cpupool.specs.OpeningPools.{free_ends_at_opening}
use Rattle.cpupool.proofs.opening.opened_free.Given as goal

abbrev pub invariant-loop-r : goal.invariant-loop-r
invariant-loop-r l = l.free ≡ map (free_ends_at_opening l.processors l.pools) (numbers_from 0 l.r)

use Rattle.std.proofs.Common.{◌≡◌}
use Rattle.std.specs.Prelude.{map}
use Rattle.sched_model.specs.Places.{numbers_from}
use Rattle.pool_records.specs.OpeningCores.{opening_core}
use Rattle.plain_opening.proofs.cores.fresh_cores.Given as goal

abbrev pub invariant-loop-r : goal.invariant-loop-r
invariant-loop-r l = l.places.items ≡ map (opening_core l.granularity l.cores) (numbers_from 0 l.r)

use Rattle.std.proofs.Common.{◌≡◌, drop, false}
use Rattle.sched_model.specs.Places.{has_listed_unit}
use Rattle.pool_units.proofs.last_place.Given as goal

abbrev pub invariant-loop-place : goal.invariant-loop-place
invariant-loop-place l = has_listed_unit (drop l.place l.units) l.u ≡ false

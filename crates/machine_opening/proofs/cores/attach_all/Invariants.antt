use Rattle.std.proofs.Common.{◌≡◌, ◌-◌}
use Rattle.pool_records.specs.OpeningCores.{opening_core}
use Rattle.machine_opening.specs.OpeningPool.{with_cores}
use Rattle.machine_opening.proofs.Attaching.{places_to}
use Rattle.machine_opening.proofs.cores.attach_all.Given as goal

abbrev pub invariant-loop-r : goal.invariant-loop-r
invariant-loop-r g l = l.pool ≡ with_cores (places_to (opening_core l.granularity l.cores) l.r (l.count - l.r)) l.initial.pool

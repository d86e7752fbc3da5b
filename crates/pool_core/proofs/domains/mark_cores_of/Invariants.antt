use Rattle.std.proofs.Common.{◌≡◌}
use Rattle.pool_records.specs.Marks.{pending_of}
use Rattle.pool_core.specs.CoreLooks.{change_first}
use Rattle.pool_core.proofs.domains.mark_cores_of.Given as goal

abbrev pub invariant-loop-r : goal.invariant-loop-r
invariant-loop-r l = l.cores ≡ record l.initial.cores { resources = change_first l.r 0 (pending_of l.d.0) l.initial.cores.resources }

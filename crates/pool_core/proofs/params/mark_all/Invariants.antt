use Rattle.std.proofs.Common.{◌≡◌}
use Rattle.pool_records.specs.Marks.{pending_each}
use Rattle.pool_core.specs.CoreLooks.{change_first}
use Rattle.pool_core.proofs.params.mark_all.Given as goal

abbrev pub invariant-loop-r : goal.invariant-loop-r
invariant-loop-r l = l.cores ≡ record l.initial.cores { resources = change_first l.r 0 pending_each l.initial.cores.resources }

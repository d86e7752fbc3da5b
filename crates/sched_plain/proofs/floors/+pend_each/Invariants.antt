use Rattle.std.proofs.Common.{length}
use Rattle.sched_plain.proofs.floors.+pend_each.Given as goal

abbrev pub decreases-pend_each : goal.decreases-pend_each
decreases-pend_each l = length l.cores.now

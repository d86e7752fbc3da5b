use Rattle.std.proofs.Common.{length}
use Rattle.sched_plain.proofs.soonest.+of_free.Given as goal

abbrev pub decreases-of_free : goal.decreases-of_free
decreases-of_free l = length l.cores.now

use Rattle.std.proofs.Common.{length}
use Rattle.sched_plain.proofs.waits.+of_works.Given as goal

abbrev pub decreases-of_works : goal.decreases-of_works
decreases-of_works l = length l.processors.now

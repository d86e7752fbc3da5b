use Rattle.std.proofs.Common.{length}
use Rattle.sched_plain.proofs.scan.+first_in.Given as goal

abbrev pub decreases-first_in : goal.decreases-first_in
decreases-first_in l = length l.kinds.now

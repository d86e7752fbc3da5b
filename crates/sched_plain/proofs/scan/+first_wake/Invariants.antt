use Rattle.std.proofs.Common.{length}
use Rattle.sched_plain.proofs.scan.+first_wake.Given as goal

abbrev pub decreases-first_wake : goal.decreases-first_wake
decreases-first_wake l = length l.domains.now

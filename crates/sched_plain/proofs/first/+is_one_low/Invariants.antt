use Rattle.std.proofs.Common.{length}
use Rattle.sched_plain.proofs.first.+is_one_low.Given as goal

abbrev pub decreases-is_one_low : goal.decreases-is_one_low
decreases-is_one_low l = length l.floors.now

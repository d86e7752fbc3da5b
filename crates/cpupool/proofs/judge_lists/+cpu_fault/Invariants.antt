use Rattle.std.proofs.Common.{length}
use Rattle.cpupool.proofs.judge_lists.+cpu_fault.Given as goal

abbrev pub decreases-cpu_fault : goal.decreases-cpu_fault
decreases-cpu_fault l = length l.ranges.now

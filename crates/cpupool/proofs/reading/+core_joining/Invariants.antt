use Rattle.std.proofs.Common.{length}
use Rattle.cpupool.proofs.reading.+core_joining.Given as goal

abbrev pub decreases-core_joining : goal.decreases-core_joining
decreases-core_joining l = length l.free.now

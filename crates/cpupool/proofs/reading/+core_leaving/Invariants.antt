use Rattle.std.proofs.Common.{length}
use Rattle.cpupool.proofs.reading.+core_leaving.Given as goal

abbrev pub decreases-core_leaving : goal.decreases-core_leaving
decreases-core_leaving l = length l.cores.now

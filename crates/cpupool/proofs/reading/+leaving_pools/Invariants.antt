use Rattle.std.proofs.Common.{length}
use Rattle.cpupool.proofs.reading.+leaving_pools.Given as goal

abbrev pub decreases-leaving_pools : goal.decreases-leaving_pools
decreases-leaving_pools l = length l.pools.now

use Rattle.std.proofs.Common.{length}
use Rattle.cpupool.proofs.pools.+core_home.Given as goal

abbrev pub decreases-core_home : goal.decreases-core_home
decreases-core_home l = length l.pools.now

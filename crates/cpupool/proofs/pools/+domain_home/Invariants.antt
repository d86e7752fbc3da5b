use Rattle.std.proofs.Common.{length}
use Rattle.cpupool.proofs.pools.+domain_home.Given as goal

abbrev pub decreases-domain_home : goal.decreases-domain_home
decreases-domain_home l = length l.pools.now

use Rattle.std.proofs.Common.{length}
use Rattle.cpupool.proofs.pools.+first_domain.Given as goal

abbrev pub decreases-first_domain : goal.decreases-first_domain
decreases-first_domain l = length l.domains.now

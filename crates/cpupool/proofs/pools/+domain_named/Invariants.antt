use Rattle.std.proofs.Common.{length}
use Rattle.cpupool.proofs.pools.+domain_named.Given as goal

abbrev pub decreases-domain_named : goal.decreases-domain_named
decreases-domain_named l = length l.domains.now

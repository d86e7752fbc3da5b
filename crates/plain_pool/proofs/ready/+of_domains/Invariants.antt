use Rattle.std.proofs.Common.{length}
use Rattle.plain_pool.proofs.ready.+of_domains.Given as goal

abbrev pub decreases-of_domains : goal.decreases-of_domains
decreases-of_domains l = length l.domains.now

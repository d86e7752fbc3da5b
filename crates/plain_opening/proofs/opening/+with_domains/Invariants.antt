use Rattle.std.proofs.Common.{length}
use Rattle.plain_opening.proofs.opening.+with_domains.Given as goal

abbrev pub decreases-with_domains : goal.decreases-with_domains
decreases-with_domains l = length l.domains.now

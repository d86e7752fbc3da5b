use Rattle.std.proofs.Common.{length}
use Rattle.credit2_core.proofs.domains.+runnable_domains.Given as goal

abbrev pub decreases-runnable_domains : goal.decreases-runnable_domains
decreases-runnable_domains l = length l.domains.now

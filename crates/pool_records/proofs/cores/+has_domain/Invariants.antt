use Rattle.std.proofs.Common.{length}
use Rattle.pool_records.proofs.cores.+has_domain.Given as goal

abbrev pub decreases-has_domain : goal.decreases-has_domain
decreases-has_domain l = length l.cores.now

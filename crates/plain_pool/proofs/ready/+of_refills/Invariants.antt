use Rattle.std.proofs.Common.{length}
use Rattle.plain_pool.proofs.ready.+of_refills.Given as goal

abbrev pub decreases-of_refills : goal.decreases-of_refills
decreases-of_refills l = length l.domains.now

use Rattle.std.proofs.Common.{length}
use Rattle.cpupool.proofs.reading.+domain_moving.Given as goal

abbrev pub decreases-domain_moving : goal.decreases-domain_moving
decreases-domain_moving l = length l.domains.now

use Rattle.std.proofs.Common.{length}
use Rattle.plain_pool.proofs.ready.+of_all_units.Given as goal

abbrev pub decreases-of_all_units : goal.decreases-of_all_units
decreases-of_all_units l = length l.domains.now

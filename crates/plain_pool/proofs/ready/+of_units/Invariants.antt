use Rattle.std.proofs.Common.{length}
use Rattle.plain_pool.proofs.ready.+of_units.Given as goal

abbrev pub decreases-of_units : goal.decreases-of_units
decreases-of_units l = length l.units.now

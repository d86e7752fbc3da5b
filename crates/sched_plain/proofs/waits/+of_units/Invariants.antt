use Rattle.std.proofs.Common.{length}
use Rattle.sched_plain.proofs.waits.+of_units.Given as goal

abbrev pub decreases-of_units : goal.decreases-of_units
decreases-of_units l = length l.units.now

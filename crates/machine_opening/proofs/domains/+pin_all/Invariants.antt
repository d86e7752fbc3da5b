use Rattle.std.proofs.Common.{length}
use Rattle.machine_opening.proofs.domains.+pin_all.Given as goal

abbrev pub decreases-pin_all : goal.decreases-pin_all
decreases-pin_all g l = length l.pins.now

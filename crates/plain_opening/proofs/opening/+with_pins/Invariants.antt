use Rattle.std.proofs.Common.{length}
use Rattle.plain_opening.proofs.opening.+with_pins.Given as goal

abbrev pub decreases-with_pins : goal.decreases-with_pins
decreases-with_pins l = length l.pins.now

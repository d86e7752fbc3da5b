use Rattle.std.proofs.Common.{◌≡◌}
use Rattle.machine_opening.specs.OpeningShelves.{filled_shelves}
use Rattle.machine_opening.proofs.spares.fill.Given as goal

abbrev pub invariant-loop-i : goal.invariant-loop-i
invariant-loop-i l = l.spares ≡ filled_shelves l.config l.kind l.i l.fn.spares

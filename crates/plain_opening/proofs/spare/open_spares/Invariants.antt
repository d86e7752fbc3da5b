use Rattle.std.proofs.Common.{◌≡◌, take}
use Rattle.std.specs.Prelude.{map}
use Rattle.plain_opening.specs.OpeningPool.{spare_of_line}
use Rattle.plain_opening.proofs.spare.open_spares.Given as goal

abbrev pub invariant-loop-line : goal.invariant-loop-line
invariant-loop-line l = l.spares.items ≡ map (spare_of_line l.machine.config) (take l.line-index l.line-items)

use Rattle.std.proofs.Common.{◌≡◌, ◌≤◌, take}
use Rattle.machine_parts.specs.Counts.{made_by}
use Rattle.machine_opening.proofs.counts.made.Given as goal

abbrev pub invariant-loop-line : goal.invariant-loop-line
invariant-loop-line l = (l.count ≡ made_by l.kind (take l.line-index l.lines)) × (l.count ≤ l.line-index)

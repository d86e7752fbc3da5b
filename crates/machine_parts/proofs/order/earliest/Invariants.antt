use Rattle.std.proofs.Common.{◌≤◌, length, drop}
use Rattle.composition_laws.specs.WholeFirst.{IsEarliest}
use Rattle.machine_parts.proofs.order.earliest.Given as goal

-- of those from the place on the earliest was found
abbrev pub invariant-loop-i : goal.invariant-loop-i
invariant-loop-i l = record { inside : l.i ≤ length l.firsts; found : IsEarliest (drop l.i l.firsts) l.found }

abbrev pub decreases-loop-i : goal.decreases-loop-i
decreases-loop-i l = l.i

use Rattle.std.proofs.Common.{◌≤◌, length, drop}
use Rattle.composition_laws.specs.WholeNext.{IsSoonest}
use Rattle.machine_parts.proofs.order.soonest.Given as goal

-- of those from the place on the least was found
abbrev pub invariant-loop-i : goal.invariant-loop-i
invariant-loop-i l = record { inside : l.i ≤ length l.moments; found : IsSoonest (drop l.i l.moments) l.least }

abbrev pub decreases-loop-i : goal.decreases-loop-i
decreases-loop-i l = l.i

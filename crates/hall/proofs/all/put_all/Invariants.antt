use Rattle.std.proofs.Common.{◌≤◌, length}
use Rattle.lock_moves.specs.SeatSight.{HoldsBelow}
use Rattle.hall.specs.SeatKnowledge.{KnowsPools}
use Rattle.hall.specs.Steps.{KeepsSight}
use Rattle.hall.proofs.all.put_all.Given as goal

abbrev pub decreases-loop-slot : goal.decreases-loop-slot
decreases-loop-slot l = length l.slots.items

abbrev pub invariant-loop-slot : goal.invariant-loop-slot
invariant-loop-slot l = KeepsSight l.fn.seat l.seat × HoldsBelow (length l.slots.items) l.seat.view × (length l.slots.items ≤ 16) × KnowsPools l.slots.items l.seat.view

use Rattle.std.proofs.Common.{◌≡◌, length}
use Rattle.lock_moves.specs.SeatSight.{HoldsBelow}
use Rattle.hall.specs.SeatKnowledge.{KnowsPools}
use Rattle.hall.specs.Steps.{KeepsSight}
use Rattle.hall.proofs.all.take_all.Given as goal

abbrev pub invariant-loop-i : goal.invariant-loop-i
invariant-loop-i g l = KeepsSight l.fn.seat l.seat × HoldsBelow l.i l.seat.view × (length l.slots.items ≡ l.i) × KnowsPools l.slots.items l.seat.view

use Rattle.std.proofs.Common.{◌≡◌, vec_capacity}
use Rattle.machine_opening.proofs.Placing.{AreFirst}
use Rattle.machine_opening.proofs.slots.open_slots.Given as goal

abbrev pub invariant-loop-i : goal.invariant-loop-i
invariant-loop-i l = record { first : AreFirst l.config l.i l.slots.items; room : vec_capacity l.slots ≡ 16 }

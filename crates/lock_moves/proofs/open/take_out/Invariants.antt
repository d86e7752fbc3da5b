use Rattle.std.proofs.Common.{◌≡◌, ◌≤◌, vec_capacity}
use Rattle.std.specs.Slots.{slots_filled, slots_items, slots_len}
use Rattle.lock_moves.specs.TableContent.{AreFirst}
use Rattle.lock_moves.proofs.Closing.{Emptied}
use Rattle.lock_moves.proofs.open.take_out.Given as goal

abbrev pub invariant-loop-k : goal.invariant-loop-k
invariant-loop-k g l = (slots_len l.closed.slots ≡ 18) × Emptied l.k (slots_filled l.closed.slots)
    × (slots_items l.closed.slots ≡ slots_items l.initial.closed.slots) × AreFirst l.k (slots_items l.initial.closed.slots) l.values.items
    × (vec_capacity l.values ≡ vec_capacity l.initial.values) × (17 ≤ vec_capacity l.initial.values)

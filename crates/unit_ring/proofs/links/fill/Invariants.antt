use Rattle.std.proofs.Common.{◌≡◌, ℕ, ◌<◌, true, get_or}
use Rattle.std.specs.Prelude.{false}
use Rattle.core.specs.Mem.Slots.{slots_items, slots_filled, SamePlaces}
use Rattle.unit_ring.specs.Nodes.{first_node, numbered_node}
use Rattle.unit_ring.proofs.links.fill.Given as goal

abbrev pub invariant-loop-k : goal.invariant-loop-k
invariant-loop-k l =
    SamePlaces l.fn.row l.row × ((m : ℕ) → m < l.k → get_or (slots_filled l.row) m false ≡ true) × ((m : ℕ) → m < l.k → numbered_node (slots_items l.row) m ≡ first_node l.base m)

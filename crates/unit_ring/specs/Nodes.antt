-- The nodes of a ring as they lie in memory: each is known by its place, which is so many records from the first.
use Rattle.std.specs.Prelude.{ℕ, ◌-◌, ◌*◌, ◌/◌, ◌<◌, ◌≡◌, List, map, length, slice_index_or, slice_set}
use denote.RawPtr.{null_ptr, count_of, InBlock, ◌+ₚ◌}
use Rattle.core.specs.declared.slots.Slots.{Slots}
use Rattle.core.specs.Mem.Slots.{slots_items, slots_ptr, IsFull}
use Rattle.sched_base.specs.declared.UnitId.{UnitId}
use Rattle.unit_ring.specs.Lists.{no_unit}
use Rattle.unit_ring.specs.Chains.{link}
use Rattle.unit_ring.specs.declared.nodes.Address.{Address}
use Rattle.unit_ring.specs.declared.nodes.NodeRecord.{NodeRecord}

-- where the node of a number lies, where the first lies at the base; a node takes 24 bytes
abbrev pub place : Address → ℕ → Address
place base k = record { ptr = base.ptr +ₚ k * 24 }

-- the number of the node that lies there
abbrev pub number_at : Address → Address → ℕ
number_at base a = (count_of a.ptr - count_of base.ptr) / 24

-- a node that leads nowhere
abbrev pub empty_node : NodeRecord
empty_node = record { after = record { ptr = null_ptr }; before = record { ptr = null_ptr }; unit = no_unit; number = 0 }

-- the node of a number
abbrev pub numbered_node : List NodeRecord → ℕ → NodeRecord
numbered_node nodes k = slice_index_or nodes k empty_node

-- the nodes with another link of one, to the node after it or to the one before it
abbrev pub with_after : List NodeRecord → ℕ → Address → List NodeRecord
with_after nodes k to = slice_set nodes k (record (numbered_node nodes k) { after = to })

abbrev pub with_before : List NodeRecord → ℕ → Address → List NodeRecord
with_before nodes k to = slice_set nodes k (record (numbered_node nodes k) { before = to })

-- a node of a number that leads to the base both ways
abbrev pub first_node : Address → ℕ → NodeRecord
first_node base k = record { after = base; before = base; unit = no_unit; number = k }

-- what contracts see of the nodes: the number after each and the number before it, and its unit
pub record Links : Type 0 where
  pub after : List ℕ
  pub before : List ℕ
  pub units : List UnitId

abbrev pub links_of : Address → List NodeRecord → Links
links_of base nodes =
    record {
      after = map (λ x. number_at base x.after) nodes;
      before = map (λ x. number_at base x.before) nodes;
      units = map (λ x. x.unit) nodes;
    }

-- each node has its number, and leads to the places of the numbers that are seen
pub record IsLinked (base : Address) (nodes : List NodeRecord) : Type 0 where
  pub after : (k : ℕ) → k < length nodes → (numbered_node nodes k).after ≡ place base (link (links_of base nodes).after k)
  pub before : (k : ℕ) → k < length nodes → (numbered_node nodes k).before ≡ place base (link (links_of base nodes).before k)
  pub number : (k : ℕ) → k < length nodes → (numbered_node nodes k).number ≡ k

-- the row begins at the base, and each of its places holds a node
pub record IsRow (row : Slots NodeRecord) (base : Address) : Type 0 where
  pub start : slots_ptr row ≡ base.ptr
  pub block : InBlock base.ptr
  pub full : IsFull row
  pub linked : IsLinked base (slots_items row)

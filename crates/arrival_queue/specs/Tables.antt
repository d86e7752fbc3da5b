-- How a queue keeps its units: a ring, and tables by place of unit and by number of node.
use Rattle.std.specs.Prelude.{ℕ, ◌+◌, ◌-◌, ◌<◌, ◌≤◌, ◌≡◌, ◌==◌, ◌&&◌, ◌||◌, Bool, true, false, not, if◌then◌else◌, List, [], ◌∷◌, ◌++◌, Option, Some, None, drop, length, map, count_by, nat_lt, slice_index, slice_index_or, pos}
use Rattle.sched_base.specs.declared.UnitId.{UnitId}
use Rattle.unit_places.specs.Places.{number_of, has_unit_place, unit_index}
use Rattle.unit_ring.specs.declared.Node.{Node}
use Rattle.unit_ring.specs.Lists.{Item, Lists, first_in, has_node, room_of, after_take, after_append, put_before}
use Rattle.arrival_queue.specs.declared.key.Key.{Key}
use Rattle.arrival_queue.specs.Queues.{Queued, Queues, queued_unit, is_lesser_key, put_first}

-- the key of a node, and the number of its arrival
abbrev pub key_at : List Key → ℕ → Key
key_at keys n = slice_index_or keys n (record { first = pos 0; second = 0 })

abbrev pub arrival_at : List ℕ → ℕ → ℕ
arrival_at arrivals n = slice_index arrivals n

-- how many items arrived before the number
abbrev pub rank : List ℕ → List Item → ℕ → ℕ
rank arrivals items a = count_by (λ x. nat_lt (arrival_at arrivals x.node) a) items

-- what callers see of an item
abbrev pub shown_unit : List Key → List ℕ → List Item → Item → Queued
shown_unit keys arrivals items x =
    queued_unit x.unit (key_at keys x.node) (rank arrivals items (arrival_at arrivals x.node))

-- all items of a ring
abbrev pub all_items : Lists → List Item
all_items ring = ring.first ++ ring.second

-- what callers see of the ring and the tables
abbrev pub queues_of : Lists → List Key → List ℕ → Queues
queues_of ring keys arrivals =
    record {
      sorted = map (shown_unit keys arrivals (all_items ring)) ring.first;
      others = map (shown_unit keys arrivals (all_items ring)) ring.second;
      spare = ring.spare;
    }

-- whether a unit of that number is among the items
abbrev pub has_number : ℕ → List Item → Bool
has_number k [] = false
has_number k (x ∷ xs) = number_of x.unit == k || has_number k xs

-- no node and no unit is there twice
abbrev pub Apart : List Item → Type 0
Apart [] = Unit {0}
Apart (x ∷ xs) = (has_node x.node xs ≡ false) × (has_number (number_of x.unit) xs ≡ false) × Apart xs

-- the node of the unit with that number
abbrev pub node_of : ℕ → List Item → Option Node
node_of k [] = None
node_of k (x ∷ xs) = (if number_of x.unit == k then Some (record { 0 = x.node }) else node_of k xs)

-- each item has its place in the tables, and arrived before the next
abbrev pub Tabled : ℕ → ℕ → List ℕ → List Item → Type 0
Tabled places next arrivals [] = Unit {0}
Tabled places next arrivals (x ∷ xs) =
    (x.node < places) × (arrival_at arrivals x.node < next) × (has_unit_place x.unit ≡ true) × Tabled places next arrivals xs

-- the tables are those of the ring
pub record IsQueue (ring : Lists) (nodes : List (Option Node)) (keys : List Key) (arrivals fresh : List ℕ) (next : ℕ) : Type 0 where
  pub apart : Apart (all_items ring)
  pub tabled : Tabled (length arrivals) next arrivals (all_items ring)
  pub listed : (u : UnitId) → has_unit_place u ≡ true → slice_index_or nodes (unit_index u) None ≡ node_of (number_of u) (all_items ring)
  pub places : length nodes ≡ 2048
  pub room : length arrivals ≡ room_of ring + 4
  pub keys_room : length keys ≡ length arrivals
  pub fresh_room : length fresh ≡ length arrivals

-- whether a unit with that key and arrival goes before an item
abbrev pub comes_before : List Key → List ℕ → Key → ℕ → Item → Bool
comes_before keys arrivals key a x =
    is_lesser_key key (key_at keys x.node) || not (is_lesser_key (key_at keys x.node) key) && nat_lt a (arrival_at arrivals x.node)

-- the first node whose item passes a test
abbrev pub first_node : (Item → Bool) → List Item → Option Node
first_node p [] = None
first_node p (x ∷ xs) = (if p x then Some (record { 0 = x.node }) else first_node p xs)

-- once an item passes a test, each after it passes
abbrev pub EachPasses : (Item → Bool) → List Item → Type 0
EachPasses p [] = Unit {0}
EachPasses p (x ∷ xs) = (p x ≡ true) × EachPasses p xs

abbrev pub PassesOn : (Item → Bool) → List Item → Type 0
PassesOn p [] = Unit {0}
PassesOn p (x ∷ xs) = (p x ≡ true → EachPasses p xs) × PassesOn p xs

-- the ring with an item before the first of list 0 that passes a test
abbrev pub put_ring : (Item → Bool) → Item → Lists → Lists
put_ring p new ring = record ring { first = put_first p new ring.first; spare = ring.spare - 1 }

-- how many numbers are less than one
abbrev pub count_below : List ℕ → ℕ → ℕ
count_below numbers a = count_by (λ b. nat_lt b a) numbers

-- the ring with an item before a node of list 0, or at its end
abbrev pub ring_with : Option Node → Item → Lists → Lists
ring_with None new ring = after_take (after_append ring 0 new)
ring_with (Some at) new ring = after_take (put_before ring at.0 new)

-- the first unit of the items that passes
abbrev pub first_unit : (UnitId → Bool) → List Item → Option UnitId
first_unit p [] = None
first_unit p (x ∷ xs) = (if p x.unit then Some x.unit else first_unit p xs)

-- a walk along the items stands at one of them, or at their end
pub record IsStop (xs : List Item) (at : Option Node) : Type 0 where
  pub place : ℕ
  pub low : place ≤ length xs
  pub is : at ≡ first_in (drop place xs)

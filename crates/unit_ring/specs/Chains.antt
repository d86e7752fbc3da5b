-- How a ring keeps its lists: one chain of links, from fence 0 to fence 3, with fences 1 and 2 between the lists.
use Rattle.std.specs.Prelude.{ℕ, zero, suc, ◌+◌, ◌-◌, ◌<◌, ◌≡◌, ◌≢◌, ◌==◌, if◌then◌else◌, List, [], ◌∷◌, ◌++◌, length, map, slice_index, slice_index_or, slice_set, nat_lt, Option, Some, None}
use Rattle.sched_base.specs.declared.UnitId.{UnitId}
use Rattle.unit_ring.specs.Lists.{Item, Lists, item, node, no_unit}
use Rattle.unit_ring.specs.declared.Node.{Node}

-- where a link leads
abbrev pub link : List ℕ → ℕ → ℕ
link links k = slice_index links k

-- the forward and the backward links lead from x along these numbers
abbrev pub Path : List ℕ → List ℕ → ℕ → List ℕ → Type 0
Path after before x [] = Unit {0}
Path after before x (y ∷ ys) = (link after x ≡ y) × (link before y ≡ x) × Path after before y ys

-- the number is not in the list
abbrev pub Lacks : ℕ → List ℕ → Type 0
Lacks n [] = Unit {0}
Lacks n (y ∷ ys) = (n ≢ y) × Lacks n ys

-- no number is in the list twice
abbrev pub Distinct : List ℕ → Type 0
Distinct [] = Unit {0}
Distinct (y ∷ ys) = Lacks y ys × Distinct ys

-- each number is below m
abbrev pub Below : ℕ → List ℕ → Type 0
Below m [] = Unit {0}
Below m (y ∷ ys) = (y < m) × Below m ys

-- the last number is that one
abbrev pub EndsIn : ℕ → List ℕ → Type 0
EndsIn e [] = ⊥
EndsIn e (y ∷ []) = y ≡ e
EndsIn e (y ∷ z ∷ zs) = EndsIn e (z ∷ zs)

-- the links go from fence 0 along these numbers to fence 3, and pass no number twice
pub record IsChain (after before ys : List ℕ) : Type 0 where
  pub path : Path after before 0 ys
  pub distinct : Distinct (0 ∷ ys)
  pub below : Below (length after) (0 ∷ ys)
  pub ends : EndsIn 3 ys
  pub lengths : length before ≡ length after

-- the list without a number
abbrev pub numbers_without : ℕ → List ℕ → List ℕ
numbers_without n [] = []
numbers_without n (y ∷ ys) = (if y == n then numbers_without n ys else y ∷ numbers_without n ys)

-- the list with a number before another
abbrev pub put_before : ℕ → ℕ → List ℕ → List ℕ
put_before at n [] = []
put_before at n (y ∷ ys) = (if y == at then n ∷ y ∷ put_before at n ys else y ∷ put_before at n ys)

-- so many numbers that follow x
abbrev pub follow : ℕ → List ℕ → ℕ → List ℕ
follow zero after x = []
follow (suc n) after x = link after x ∷ follow n after (link after x)

-- the numbers before a fence
abbrev pub numbers_before : ℕ → List ℕ → List ℕ
numbers_before fence [] = []
numbers_before fence (y ∷ ys) = (if y == fence then [] else y ∷ numbers_before fence ys)

-- the numbers after a fence
abbrev pub numbers_after : ℕ → List ℕ → List ℕ
numbers_after fence [] = []
numbers_after fence (y ∷ ys) = (if y == fence then ys else numbers_after fence ys)

-- the chain of the forward links
abbrev pub chain : List ℕ → List ℕ
chain after = follow (length after - 1) after 0

-- the nodes of list 0, of list 1, and the free ones
abbrev pub nodes_of : List ℕ → List ℕ
nodes_of after = numbers_before 1 (chain after)

abbrev pub second_of : List ℕ → List ℕ
second_of after = numbers_before 2 (numbers_after 1 (chain after))

abbrev pub free_of : List ℕ → List ℕ
free_of after = numbers_before 3 (numbers_after 2 (numbers_after 1 (chain after)))

-- three lists with the fences after them
abbrev pub fenced_numbers : List ℕ → List ℕ → List ℕ → List ℕ
fenced_numbers xs ys zs = xs ++ 1 ∷ (ys ++ 2 ∷ (zs ++ 3 ∷ []))

-- the numbers of so many nodes
abbrev pub nodes_up_to : ℕ → List ℕ
nodes_up_to zero = []
nodes_up_to (suc k) = nodes_up_to k ++ (4 + k) ∷ []

-- the unit of a node
abbrev pub unit_at : List UnitId → ℕ → UnitId
unit_at units n = slice_index_or units n no_unit

-- the nodes with their units
abbrev pub items : List UnitId → List ℕ → List Item
items units ns = map (λ n. item n (unit_at units n)) ns

-- what callers see of the links and the units
abbrev pub lists_of : List ℕ → List UnitId → Lists
lists_of after units =
    record { first = items units (nodes_of after); second = items units (second_of after); spare = length (free_of after) }

-- the links make a chain of their lists with the fences, and each number has a place for a unit
pub record IsRing (after before : List ℕ) (units : List UnitId) : Type 0 where
  pub whole : IsChain after before (chain after)
  pub parts : chain after ≡ fenced_numbers (nodes_of after) (second_of after) (free_of after)
  pub places : length units ≡ length after

-- the node of that number, where it is no fence
abbrev pub as_node : ℕ → Option Node
as_node n = (if nat_lt n 4 then None else Some (node n))

-- the forward links without a node, the backward ones without it, and both with one before another
abbrev pub after_without : List ℕ → List ℕ → ℕ → List ℕ
after_without after before n = slice_set after (link before n) (link after n)

abbrev pub before_without : List ℕ → List ℕ → ℕ → List ℕ
before_without after before n = slice_set before (link after n) (link before n)

abbrev pub after_with : List ℕ → List ℕ → ℕ → ℕ → List ℕ
after_with after before at n = slice_set (slice_set after (link before at) n) n at

abbrev pub before_with : List ℕ → List ℕ → ℕ → ℕ → List ℕ
before_with after before at n = slice_set (slice_set before n (link before at)) at n

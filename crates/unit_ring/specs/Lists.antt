-- The two lists of a ring: nodes with their units, in order.
use Rattle.std.specs.Prelude.{ℕ, ◌==◌, ◌||◌, ◌+◌, ◌-◌, Bool, false, if◌then◌else◌, List, [], ◌∷◌, ◌++◌, length, Option, Some, None}
use Rattle.sched_base.specs.declared.UnitId.{UnitId}
pub use Rattle.sched_base.specs.Units.{no_unit}
use Rattle.unit_ring.specs.declared.Node.{Node}

-- a node and its unit
pub record Item : Type 0 where
  pub node : ℕ
  pub unit : UnitId

-- list 0, list 1, and how many nodes are free
pub record Lists : Type 0 where
  pub first : List Item
  pub second : List Item
  pub spare : ℕ

-- the item of that node and unit
abbrev pub item : ℕ → UnitId → Item
item n u = record { node = n; unit = u }

-- the node with that number
abbrev pub node : ℕ → Node
node n = record { 0 = n }

-- whether the list has the node
abbrev pub has_node : ℕ → List Item → Bool
has_node n [] = false
has_node n (x ∷ xs) = x.node == n || has_node n xs

-- whether one of the lists has the node
abbrev pub is_live : Lists → ℕ → Bool
is_live lists n = has_node n lists.first || has_node n lists.second

-- the list of that number
abbrev pub list_of : Lists → ℕ → List Item
list_of lists k = (if k == 0 then lists.first else lists.second)

-- the unit of a node of the list
abbrev pub unit_in : ℕ → List Item → UnitId
unit_in n [] = no_unit
unit_in n (x ∷ xs) = (if x.node == n then x.unit else unit_in n xs)

-- the unit of a node of either list
abbrev pub unit_of : Lists → ℕ → UnitId
unit_of lists n = (if has_node n lists.first then unit_in n lists.first else unit_in n lists.second)

-- the first node of the list
abbrev pub first_in : List Item → Option Node
first_in [] = None
first_in (x ∷ xs) = Some (node x.node)

-- the node after a node of the list
abbrev pub next_in : ℕ → List Item → Option Node
next_in n [] = None
next_in n (x ∷ xs) = (if x.node == n then first_in xs else next_in n xs)

-- the node after a node of either list
abbrev pub next_of : Lists → ℕ → Option Node
next_of lists n = (if has_node n lists.first then next_in n lists.first else next_in n lists.second)

-- the last node of the list, and what stands before the list where it is empty
abbrev pub last_from : Option Node → List Item → Option Node
last_from before [] = before
last_from before (x ∷ xs) = last_from (Some (node x.node)) xs

abbrev pub last_in : List Item → Option Node
last_in xs = last_from None xs

-- the node before a node of the list, where something stands before the list
abbrev pub prev_from : Option Node → ℕ → List Item → Option Node
prev_from before n [] = None
prev_from before n (x ∷ xs) = (if x.node == n then before else prev_from (Some (node x.node)) n xs)

-- the node before a node of either list
abbrev pub prev_of : Lists → ℕ → Option Node
prev_of lists n = (if has_node n lists.first then prev_from None n lists.first else prev_from None n lists.second)

-- the list without a node
abbrev pub without_in : ℕ → List Item → List Item
without_in n [] = []
without_in n (x ∷ xs) = (if x.node == n then without_in n xs else x ∷ without_in n xs)

-- the list with an item before a node
abbrev pub put_before_in : ℕ → Item → List Item → List Item
put_before_in at new [] = []
put_before_in at new (x ∷ xs) = (if x.node == at then new ∷ x ∷ put_before_in at new xs else x ∷ put_before_in at new xs)

-- both lists without a node
abbrev pub lists_without : Lists → ℕ → Lists
lists_without lists n = record lists { first = without_in n lists.first; second = without_in n lists.second }

-- the lists with an item before a node
abbrev pub put_before : Lists → ℕ → Item → Lists
put_before lists at new =
    record lists { first = put_before_in at new lists.first; second = put_before_in at new lists.second }

-- the lists with an item at the end of one of them
abbrev pub after_append : Lists → ℕ → Item → Lists
after_append lists k new =
    (if k == 0 then record lists { first = lists.first ++ new ∷ [] } else record lists { second = lists.second ++ new ∷ [] })

-- with one free node less
abbrev pub after_take : Lists → Lists
after_take lists = record lists { spare = lists.spare - 1 }

-- with one free node more
abbrev pub after_give : Lists → Lists
after_give lists = record lists { spare = lists.spare + 1 }

-- how many nodes there are, live and free; their numbers begin at 4
abbrev pub room_of : Lists → ℕ
room_of lists = length lists.first + length lists.second + lists.spare

-- no item, and so many free nodes
abbrev pub empty_lists : ℕ → Lists
empty_lists nodes = record { first = []; second = []; spare = nodes }

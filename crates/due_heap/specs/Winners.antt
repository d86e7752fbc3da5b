-- The tree of winners. Its nodes are numbered: the root is 1, and below k are 2k and 2k + 1. With n ids the nodes below n hold winners,
-- and the n nodes from n on are the leaves, one an id. The winner at a node is the first of the ids whose leaves are under it.
use Rattle.std.specs.Prelude.{ℕ, zero, suc, ◌+◌, ◌-◌, ◌/◌, ◌^◌, ◌≤◌, ◌<◌, ◌==◌, ◌≡◌, ◌≢◌, nat_lt, ◌||◌, ◌&&◌, Bool, true, false, if◌then◌else◌, Option, Some, None, List, length, slice_index_or}
use Rattle.sched_base.specs.declared.Moment.{Moment}
use Rattle.sched_base.specs.Numbers.{has_moment_come}
use Rattle.due_heap.specs.Dues.{armed_moment}

-- whether an id with its moment goes before another with its own: by moment, none after all, then by id
abbrev pub precedes : Option Moment → ℕ → Option Moment → ℕ → Bool
precedes (Some x) a (Some y) b = nat_lt x.0 y.0 || (x.0 == y.0 && nat_lt a b)
precedes (Some x) a None b = true
precedes None a (Some y) b = false
precedes None a None b = nat_lt a b

-- whether an id goes before another
abbrev pub is_due_before : List (Option Moment) → ℕ → ℕ → Bool
is_due_before moments a b = precedes (armed_moment moments a) a (armed_moment moments b) b

-- of two ids the one that goes first
abbrev pub sooner_id : List (Option Moment) → ℕ → ℕ → ℕ
sooner_id moments a b = (if is_due_before moments b a then b else a)

-- whether an id is armed with a moment that has come at t
abbrev pub is_armed_due : List (Option Moment) → ℕ → ℕ → Bool
is_armed_due moments t id = has_moment_come t (armed_moment moments id)

-- the winner at a node: a leaf's is its own id
abbrev pub node_winner : List ℕ → ℕ → ℕ
node_winner winners k = (if nat_lt k (length winners) then slice_index_or winners k 0 else k - length winners)

-- the node so many steps above another
abbrev pub node_above : ℕ → ℕ → ℕ
node_above zero node = node
node_above (suc steps) node = node_above steps (node / 2)

-- the node k is the other node or above it
pub record IsAncestor (k node : ℕ) : Type 0 where
  pub steps : ℕ
  pub is : node_above steps node ≡ k

-- the id is the first of those whose leaves are under the node k
pub record IsFirstUnder (moments : List (Option Moment)) (k id : ℕ) : Type 0 where
  pub below : id < length moments
  pub under : IsAncestor k (length moments + id)
  pub first : (other : ℕ) → other < length moments → IsAncestor k (length moments + other) → is_due_before moments other id ≡ false

-- the winners of the ids that have these moments; the ids are numbers of 16 bits
pub record IsTree (moments : List (Option Moment)) (winners : List ℕ) : Type 0 where
  pub few : length moments ≤ 2 ^ 16
  pub size : length winners ≡ length moments
  pub each : (k : ℕ) → 1 ≤ k → k < length moments → IsFirstUnder moments k (node_winner winners k)

-- the winners as they were before one id's moment changed
pub record IsTreeBut (id : ℕ) (moments : List (Option Moment)) (winners : List ℕ) : Type 0 where
  pub before : List (Option Moment)
  pub tree : IsTree before winners
  pub size : length before ≡ length moments
  pub same : (other : ℕ) → other ≢ id → armed_moment before other ≡ armed_moment moments other

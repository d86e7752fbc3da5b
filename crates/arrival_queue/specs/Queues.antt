-- Units in order of a key, then of arrival; and others, in order of arrival alone.
use Rattle.std.specs.Prelude.{ℕ, ◌+◌, ◌-◌, ◌==◌, ◌&&◌, ◌||◌, Bool, false, not, if◌then◌else◌, List, [], ◌∷◌, ◌++◌, length, map, nat_lt, int_lt}
use Rattle.sched_base.specs.declared.UnitId.{UnitId}
use Rattle.unit_places.specs.Places.{number_of}
use Rattle.arrival_queue.specs.declared.key.Key.{Key}

-- a unit with its key, and how many of the units that are here arrived earlier
pub record Queued : Type 0 where
  pub unit : UnitId
  pub key : Key
  pub rank : ℕ

-- the units in order of their keys, the others, and how many more there is room for
pub record Queues : Type 0 where
  pub sorted : List Queued
  pub others : List Queued
  pub spare : ℕ

-- the unit with its key and its rank
abbrev pub queued_unit : UnitId → Key → ℕ → Queued
queued_unit u key rank = record { unit = u; key = key; rank = rank }

-- whether a key is less than another: by its first part, then by its second
abbrev pub is_lesser_key : Key → Key → Bool
is_lesser_key a b = int_lt a.first b.first || not (int_lt b.first a.first) && nat_lt a.second b.second

-- whether one goes before another: by key, then by arrival
abbrev pub goes_before : Queued → Queued → Bool
goes_before a b = is_lesser_key a.key b.key || not (is_lesser_key b.key a.key) && nat_lt a.rank b.rank

-- an item put before the first that passes a test, or at the end
abbrev pub put_first : {X : Type 0} → (X → Bool) → X → List X → List X
put_first p new [] = new ∷ []
put_first p new (x ∷ xs) = (if p x then new ∷ x ∷ xs else x ∷ put_first p new xs)

-- a unit put at its place
abbrev pub list_with : Queued → List Queued → List Queued
list_with new es = put_first (goes_before new) new es

-- whether it is that unit's
abbrev pub is_of : UnitId → Queued → Bool
is_of u e = number_of e.unit == number_of u

-- whether the unit is in the list
abbrev pub has_unit : UnitId → List Queued → Bool
has_unit u [] = false
has_unit u (e ∷ es) = is_of u e || has_unit u es

-- whether the unit is in either list
abbrev pub holds : Queues → UnitId → Bool
holds q u = has_unit u q.sorted || has_unit u q.others

-- the list without a unit
abbrev pub list_without : UnitId → List Queued → List Queued
list_without u [] = []
list_without u (e ∷ es) = (if is_of u e then list_without u es else e ∷ list_without u es)

-- how many arrived before the unit of the list
abbrev pub rank_in : UnitId → List Queued → ℕ
rank_in u [] = 0
rank_in u (e ∷ es) = (if is_of u e then e.rank else rank_in u es)

-- how many arrived before a unit of either list
abbrev pub rank_of : Queues → UnitId → ℕ
rank_of q u = (if has_unit u q.sorted then rank_in u q.sorted else rank_in u q.others)

-- how many units there are
abbrev pub count : Queues → ℕ
count q = length q.sorted + length q.others

-- with a unit that arrives at its place
abbrev pub after_insert : Queues → UnitId → Key → Queues
after_insert q u key = record q { sorted = list_with (queued_unit u key (count q)) q.sorted; spare = q.spare - 1 }

-- with a unit that arrives among the others
abbrev pub after_append : Queues → UnitId → Key → Queues
after_append q u key = record q { others = q.others ++ queued_unit u key (count q) ∷ []; spare = q.spare - 1 }

-- a unit, after one that arrived earlier or later is gone
abbrev pub closed_up : ℕ → Queued → Queued
closed_up r e = record e { rank = (if nat_lt r e.rank then e.rank - 1 else e.rank) }

-- without a unit
abbrev pub after_remove : Queues → UnitId → Queues
after_remove q u =
    record {
      sorted = map (closed_up (rank_of q u)) (list_without u q.sorted);
      others = map (closed_up (rank_of q u)) (list_without u q.others);
      spare = q.spare + 1;
    }

-- with a unit of either list at its place by a new key; its arrival stays
abbrev pub after_move : Queues → UnitId → Key → Queues
after_move q u key =
    record q { sorted = list_with (queued_unit u key (rank_of q u)) (list_without u q.sorted); others = list_without u q.others }

-- no unit, and room for so many
abbrev pub empty_queues : ℕ → Queues
empty_queues units = record { sorted = []; others = []; spare = units }

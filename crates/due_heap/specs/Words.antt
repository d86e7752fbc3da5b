-- Sets of ids below 64 as words, with a bit an id, and what the words of a set of moments tell.
use Rattle.std.specs.Prelude.{ℕ, ◌≤◌, ◌<◌, ◌≡◌, ◌≢◌, ◌&&◌, not, is_some, Bool, true, false, Option, Some, None, List, length, if◌then◌else◌}
use Rattle.sched_base.specs.declared.Moment.{Moment}
pub use Rattle.sched_base.specs.CoreSets.{has_core_bit}
use Rattle.due_heap.specs.declared.set.Sifted.{Sifted}
use Rattle.due_heap.specs.declared.set.Words.{Words}
use Rattle.due_heap.specs.Dues.{armed_moment, IsArmed, GoesFirst}
use Rattle.due_heap.specs.Winners.{is_armed_due, precedes}
use Rattle.sched_base.specs.Numbers.{has_moment_come}

-- the new set has the id as wanted, and every other id as the old one
pub record ChangesId (id : ℕ) (wanted : Bool) (old new : ℕ) : Type 0 where
  pub here : has_core_bit new id ≡ wanted
  pub others : (other : ℕ) → other ≢ id → has_core_bit new other ≡ has_core_bit old other

-- the id is the lowest of the set
pub record IsLowest (set id : ℕ) : Type 0 where
  pub few : id < 64
  pub has : has_core_bit set id ≡ true
  pub below : (other : ℕ) → other < id → has_core_bit set other ≡ false

-- whether there is a moment and it is after t
abbrev pub is_later : ℕ → Option Moment → Bool
is_later t due = is_some due && not (has_moment_come t due)

-- what the words tell is so of the ids that have these moments
pub record AreWords (moments : List (Option Moment)) (words : Words) : Type 0 where
  pub few : length moments ≤ 64
  pub come : (id : ℕ) → id < 64 → has_core_bit words.come id ≡ has_moment_come words.told.0 (armed_moment moments id)
  pub later : (id : ℕ) → id < 64 → has_core_bit words.later id ≡ is_later words.told.0 (armed_moment moments id)
  pub soon : (id : ℕ) (at : Moment) → IsArmed moments id at → words.told.0 < at.0 → GoesFirst words.soon words.next at id

-- the words after an id got its moment, or none: a later id still does not go before the bound
pub record TakesDue (id : ℕ) (due : Option Moment) (old new : Words) : Type 0 where
  pub told : new.told ≡ old.told
  pub come : ChangesId id (has_moment_come old.told.0 due) old.come new.come
  pub later : ChangesId id (is_later old.told.0 due) old.later new.later
  pub soon : (at : Moment) → due ≡ Some at → old.told.0 < at.0 → GoesFirst new.soon new.next at id
  pub others : (at : Moment) (other : ℕ) → GoesFirst old.soon old.next at other → GoesFirst new.soon new.next at other

-- what a walk has found after one id more: it is among those that have come at t, or it does not go before the bound
pub record Sifts (moments : List (Option Moment)) (id t : ℕ) (old new : Sifted) : Type 0 where
  pub come : ChangesId id (is_armed_due moments t id) old.come new.come
  pub soon : (at : Moment) → IsArmed moments id at → t < at.0 → GoesFirst new.soon new.next at id
  pub others : (at : Moment) (other : ℕ) → GoesFirst old.soon old.next at other → GoesFirst new.soon new.next at other

-- of the first so far and an id with its moment, if it is armed, the one that goes first
abbrev pub first_with_id : Option (Moment × ℕ) → Option Moment → ℕ → Option (Moment × ℕ)
first_with_id first None id = first
first_with_id None (Some at) id = Some (at, id)
first_with_id (Some due) (Some at) id = (if precedes (Some at) id (Some due.0) due.1 then Some (at, id) else Some due)

-- the first of the armed ids that pass a test, by moment, then by id; none where there is none
abbrev pub IsFirstAmong : List (Option Moment) → (ℕ → Bool) → Option (Moment × ℕ) → Type 0
IsFirstAmong moments among None = (id : ℕ) (at : Moment) → among id ≡ true → IsArmed moments id at → ⊥
IsFirstAmong moments among (Some due) = IsArmed moments due.1 due.0 × ((id : ℕ) (at : Moment) → among id ≡ true → IsArmed moments id at → GoesFirst due.0 due.1 at id)

-- the least id whose moment has come at t; none where none has
abbrev pub IsFirstCome : List (Option Moment) → ℕ → Option ℕ → Type 0
IsFirstCome moments t None = (id : ℕ) → is_armed_due moments t id ≡ false
IsFirstCome moments t (Some id) = (is_armed_due moments t id ≡ true) × ((other : ℕ) → other < id → is_armed_due moments t other ≡ false)

-- How contracts name a set, and what a call asks of a seat and of what it is given.
use Rattle.std.specs.Prelude.{◌≡◌, ℕ, List, true, Some}
use Rattle.atomic_table.specs.Seated.{TableId}
use Rattle.journal_core.specs.Parts.{StatePart}
use Rattle.journal_core.specs.Books.{Chronicle}
use Rattle.lock_moves.specs.SeatSight.{Known, Seen, Sitting, find_lock, has_place, after_take}
use Rattle.lock_moves.specs.Plays.{Lists}

-- a set: its table, and the book that it was opened with
pub record LockTable : Type 0 where
  pub table : TableId
  pub opened : Chronicle

-- a held value: the number of its lock, and the value
pub record Taken (V : Type 0) : Type 0 where
  pub lock : ℕ
  pub value : V

-- the seat with this view
abbrev pub sitting_with : Sitting → Seen → Sitting
sitting_with s v = record s { view = v }

-- the seat `old`, whose view is v for the tries that were refused, has taken the lock k, whose value has this part; the view has the names that the part lists
abbrev pub HasTaken : ℕ → StatePart → Seen → Sitting → Sitting → Type 0
HasTaken k part v old new = (names : List ℕ) × (now : ℕ) × (new ≡ sitting_with old (after_take k part names now v)) × Lists part names

-- the value is the lock's part as the seat knows it, and lists the names that the seat has for the lock
abbrev pub IsAsKnown : ℕ → StatePart → Seen → Type 0
IsAsKnown k part v = (z : Known) × (find_lock k v.held ≡ Some z) × (part ≡ z.part) × Lists z.part z.names

-- the seat has the name n for the lock k
abbrev pub HasName : ℕ → ℕ → Seen → Type 0
HasName k n v = (z : Known) × (find_lock k v.held ≡ Some z) × (has_place n z.names ≡ true)

-- What a seat of the example has, and what stops it.
use Rattle.std.specs.Prelude.{◌≡◌, ◌≢◌, ◌⊎◌, ◌+◌, ◌≤◌, ℕ, List, length}
use mathlib.Core.List.{IsPrefix}
use mathlib.Core.Option.{some}
use lib.ListN.{get_elem?}
use Rattle.sched_model.specs.declared.event.Entry.{Entry}
use Rattle.journal_core.specs.Books.{Chronicle}
use Rattle.lock_moves.specs.SeatSight.{Sitting}
use Rattle.lock_moves.specs.Sets.{LockTable, Taken}
use Rattle.lock_example.specs.declared.counter.Counter.{Counter}
use Rattle.lock_example.specs.Example.{adding_machine}

-- the seat is of the set and of the example's input, its front is h, and it has n of the 1024 parts
pub record Stands (set : LockTable) (h : List Entry) (n : ℕ) (s : Sitting) : Type 0 where
  pub table : s.table ≡ set.table
  pub input : s.view.input ≡ adding_machine
  pub front : s.view.front ≡ h
  pub shares : s.view.shares ≡ n

-- the values are those of the locks from `first` on, in order
abbrev pub AreFrom : ℕ → List (Taken Counter) → Type 0
AreFrom first values = (i : ℕ) (x : Taken Counter) → get_elem? values i ≡ some x → x.lock ≡ first + i

-- the book's history is not h, or the book has no room for a further entry
abbrev pub Differs : List Entry → Chronicle → Type 0
Differs h b = (b.history ≢ h) ⊎ (b.limit ≤ length b.history)

-- the seat has taken the book b and knows its limit and its history, which begins with h; and it is not h, or the book has no room for a further entry
pub record StopsAt (set : LockTable) (h : List Entry) (n : ℕ) (b : Chronicle) (s : Sitting) : Type 0 where
  pub stands : Stands set b.history n s
  pub input : b.input ≡ adding_machine
  pub limit : b.limit ≡ s.view.limit
  pub begins : IsPrefix h b.history
  pub cause : Differs h b

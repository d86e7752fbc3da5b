-- What a listener hears of a run, and the seat that reads the book for it.
use Rattle.std.specs.Prelude.{◌≡◌, ◌≤◌, ◌+◌, ℕ, [], ◌++◌, List, length, take, vec_capacity}
use mathlib.Core.List.{IsPrefix}
use Rattle.sched_model.specs.declared.event.Entry.{Entry}
use Rattle.lock_moves.specs.Sets.{LockTable}
use Rattle.hall.specs.Seats.{IsOf, Seated, shares_in}
use Rattle.pcpu_threads.specs.declared.heard.Scribe.{Scribe}
use Rattle.pcpu_threads.specs.Workers.{OneEach, shares_of}

-- the entries that a seat has seen
abbrev pub front_of : Seated → List Entry
front_of s = s.sitting.view.front

-- the scribe's seat is one of the hall; nothing is read ahead, and there is room for 2048 entries
pub record IsScribe (hall : LockTable) (s : Scribe) : Type 0 where
  pub of : IsOf hall s.seat
  pub nothing : s.ahead.items ≡ []
  pub room : vec_capacity s.ahead ≡ 2048

-- the caller's seat, one worker for each processor, and the scribe's seat: they are of the hall, and together they have all parts
pub record AreSeats (hall : LockTable) (seat : Seated) (workers : List Seated) (scribe : Scribe) : Type 0 where
  pub of : IsOf hall seat
  pub each : OneEach hall workers
  pub scribe_is : IsScribe hall scribe
  pub one : shares_in scribe.seat ≡ 1
  pub shares : (shares_in seat + shares_of workers) + shares_in scribe.seat ≡ 1024

module _ {L K : Type 0} (heard : L → K → List Entry → L → K → Type 0) where
  -- whatever was heard before, these entries were heard behind it
  abbrev pub IsTold : List Entry → L → K → L → K → Type 0
  IsTold entries old before new after = (first : L) (out : K) (entries_before : List Entry) → heard first out entries_before old before → heard first out (entries_before ++ entries) new after

  -- the scribe has read on in the book, from so many entries to so many, and what it read was heard
  pub record HearsOn (hall : LockTable) (from to : ℕ) (old : Scribe) (listener : L) (outlet : K) (new : Scribe) (listener_after : L) (outlet_after : K) : Type 0 where
    pub scribe_is : IsScribe hall new
    pub shares : shares_in new.seat ≡ shares_in old.seat
    pub begins : IsPrefix (front_of old.seat) (front_of new.seat)
    pub more : from ≤ to
    pub inside : to ≤ length (front_of new.seat)
    pub told : (first : L) (out : K) → heard first out (take from (front_of old.seat)) listener outlet → heard first out (take to (front_of new.seat)) listener_after outlet_after

-- What the scribe has read of the book.
use Rattle.std.specs.Prelude.{◌≡◌, ℕ, ◌<◌, ◌≤◌, ◌^◌, ◌+◌, ◌++◌, [], List, Some, length, slice_get, take}
use mathlib.Core.List.{IsPrefix}
use Rattle.sched_model.specs.declared.event.Entry.{Entry}
use Rattle.sched_report.specs.Stays.{last_moment}
use Rattle.lock_moves.specs.Sets.{LockTable}
use Rattle.hall.specs.Seats.{IsOf, Seated, shares_in}
use Rattle.pcpu_watch.specs.declared.ahead.Ahead.{Ahead}
use Rattle.pcpu_watch.specs.declared.looks.Look.{Look}
use Rattle.pcpu_watch.specs.declared.scribe.Scribe.{Scribe}
use Rattle.pcpu_watch.specs.Looks.{ShowsBeginning}
use Rattle.pcpu_watch.specs.Moments.{ends, moment_of}

-- the entries that a seat has seen
abbrev pub front_of : Seated → List Entry
front_of s = s.sitting.view.front

-- the seat of the hall has seen more of the history, or as much
pub record SeesOn (hall : LockTable) (old new : Seated) : Type 0 where
  pub of : IsOf hall new
  pub begins : IsPrefix (front_of old) (front_of new)
  pub shares : shares_in new ≡ shares_in old

-- each entry that was read ahead stands at its place of the history
abbrev pub IsAhead : List Entry → Ahead → Type 0
IsAhead history ahead = (i : ℕ) (e : Entry) → slice_get ahead.entries.items i ≡ Some e → slice_get history (ahead.first + i) ≡ Some e

-- the entries that the scribe has read
abbrev pub has_read : Scribe → List Entry
has_read s = take s.read (front_of s.seat)

-- the scribe's seat is one of the hall, and has seen what was read ahead; what it has read is what it gave the writer, so many moments end with that, and its last entry has that moment
pub record IsScribe (hall : LockTable) (s : Scribe) : Type 0 where
  pub of : IsOf hall s.seat
  pub inside : s.read ≤ length (front_of s.seat)
  pub few : s.read ≤ 2 ^ 32
  pub given : s.writer.published ++ s.writer.pending ≡ has_read s
  pub ended : s.ended ≡ ends (has_read s)
  pub latest : s.latest.0 ≡ last_moment (has_read s)
  pub ahead : IsAhead (front_of s.seat) s.ahead

-- all that the scribe has read stands in moments before the moment k
abbrev pub ReadsBefore : ℕ → Scribe → Type 0
ReadsBefore k s = (place : ℕ) → place < s.read → moment_of (has_read s) place < k

-- the scribe has not read on past the moments before the moment k
pub record CanWrite (hall : LockTable) (k : ℕ) (s : Scribe) : Type 0 where
  pub is : IsScribe hall s
  pub before : ReadsBefore k s
  pub ended : s.ended ≤ k

-- the moments before the moment k are read and published
pub record HasWritten (k : ℕ) (s : Scribe) : Type 0 where
  pub before : ReadsBefore k s
  pub ended : s.ended ≡ k
  pub pending : s.writer.pending ≡ []

-- the scribe has read on, or has read as much
pub record ReadsOn (hall : LockTable) (old new : Scribe) : Type 0 where
  pub is : IsScribe hall new
  pub begins : IsPrefix (has_read old) (has_read new)
  pub shares : shares_in new.seat ≡ shares_in old.seat
  pub cores : new.writer.cores ≡ old.writer.cores

-- the scribe has looked at the book, and read as much
pub record KeepsReading (hall : LockTable) (old new : Scribe) : Type 0 where
  pub on : ReadsOn hall old new
  pub same : has_read new ≡ has_read old
  pub read : new.read ≡ old.read
  pub ended : new.ended ≡ old.ended
  pub writer : new.writer ≡ old.writer

-- what was seen may be kept: it is no less than what was learned, and shows a beginning of what the scribe has read
pub record MayKeep (s : Scribe) (learned seen : Look) : Type 0 where
  pub least : learned.entries ≤ seen.entries
  pub shows : ShowsBeginning (has_read s) seen

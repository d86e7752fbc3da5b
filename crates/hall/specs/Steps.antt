-- What the steps of a seat change of what it has seen and holds: locks that are taken or given back, the book, and an entry that is added.
use Rattle.std.specs.Prelude.{ℕ, ◌≡◌, ◌≢◌, ◌<◌, ◌++◌, ◌∷◌, [], List, Some, None, length, true}
use mathlib.Core.List.{IsPrefix}
use Rattle.sched_base.specs.declared.Moment.{Moment}
use Rattle.sched_model.specs.declared.action.Action.{Action}
use Rattle.sched_model.specs.declared.event.Entry.{Entry}
use Rattle.sched_model.specs.declared.event.Event.{Event}
use Rattle.sched_model.specs.Machine.{event_of, is_action_enabled}
use Rattle.sched_model.specs.Runs.{event_action}
use Rattle.journal_core.specs.Books.{Chronicle}
use Rattle.journal_core.specs.Histories.{part_at}
use Rattle.machine_parts.specs.Places.{GoesOn, state_of}
use Rattle.machine_parts.specs.Told.{told_of}
use Rattle.lock_moves.specs.Plays.{Current}
use Rattle.lock_moves.specs.Decisions.{who_decides}
use Rattle.lock_moves.specs.Sets.{HasName, LockTable}
use Rattle.lock_moves.specs.SeatSight.{Holds, Known, Seen, Sitting, find_lock, known_part}
use Rattle.lock_moves.specs.Words.{has_core, book_lock}

-- the seat has seen and done no more: it took locks of parts or gave them back
pub record KeepsSight (old new : Sitting) : Type 0 where
  pub table : new.table ≡ old.table
  pub input : new.view.input ≡ old.view.input
  pub limit : new.view.limit ≡ old.view.limit
  pub shares : new.view.shares ≡ old.view.shares
  pub front : new.view.front ≡ old.view.front
  pub own : new.view.own ≡ old.view.own
  pub takes : new.view.takes ≡ old.view.takes

-- the seat of the set has the book b, whose history is its front
pub record HasBook (set : LockTable) (b : Chronicle) (s : Sitting) : Type 0 where
  pub table : s.table ≡ set.table
  pub holds : Holds book_lock s.view
  pub input : b.input ≡ s.view.input
  pub limit : b.limit ≡ s.view.limit
  pub front : s.view.front ≡ b.history
  pub nobody : s.view.named ≡ 0

-- so it has the hall's own book, and all that it knows is current
pub record BeginsTurn (hall : LockTable) (b : Chronicle) (s : Sitting) : Type 0 where
  pub has : HasBook hall b s
  pub current : Current s.view
  pub input : b.input ≡ hall.opened.input

-- the seat has taken the book b, whose history goes on from what the seat had seen
pub record SeesBook (b : Chronicle) (old new : Sitting) : Type 0 where
  pub table : new.table ≡ old.table
  pub input : new.view.input ≡ old.view.input
  pub limit : new.view.limit ≡ old.view.limit
  pub shares : new.view.shares ≡ old.view.shares
  pub own : new.view.own ≡ old.view.own
  pub front : new.view.front ≡ b.history
  pub begins : IsPrefix old.view.front b.history
  pub takes : old.view.takes < new.view.takes
  pub alone : old.view.shares ≡ 1024 → b.history ≡ old.view.front

-- the seat, which sat as `old`, has taken the book b: all that it knows is current, of the locks that it held it knows what it knew, and the moment
-- is the same
pub record HasTakenBook (set : LockTable) (b : Chronicle) (old new : Sitting) : Type 0 where
  pub has : HasBook set b new
  pub current : Current new.view
  pub sees : SeesBook b old new
  pub locks : (k : ℕ) → k ≢ book_lock → find_lock k new.view.held ≡ find_lock k old.view.held
  pub now : new.view.now ≡ old.view.now

-- the seat has added the entry to the book b, and has given the book back
pub record HasEntered (b : Chronicle) (entry : Entry) (old new : Sitting) : Type 0 where
  pub table : new.table ≡ old.table
  pub input : new.view.input ≡ old.view.input
  pub limit : new.view.limit ≡ old.view.limit
  pub shares : new.view.shares ≡ old.view.shares
  pub takes : new.view.takes ≡ old.view.takes
  pub front : new.view.front ≡ b.history ++ entry ∷ []
  pub own : new.view.own ≡ old.view.own ++ length b.history ∷ []

-- the seat may do the action at t and add its entry: it has the book, which goes on and has room, and in the state to which that leads the action may come
pub record MayAct (set : LockTable) (b : Chronicle) (s : Sitting) (action : Action) (t : Moment) : Type 0 where
  pub has : HasBook set b s
  pub current : Current s.view
  pub goes : GoesOn (told_of b)
  pub room : length b.history < b.limit
  pub now : t.0 ≡ s.view.now
  pub enabled : is_action_enabled b.input (state_of (told_of b)) (state_of (told_of b)).now action ≡ true

-- the seat has done so: this is the action's event, and its entry is added
pub record HasActed (b : Chronicle) (action : Action) (t : Moment) (done : Event) (old new : Sitting) : Type 0 where
  pub event : done ≡ event_of b.input (state_of (told_of b)) (state_of (told_of b)).now action
  pub entered : HasEntered b (record { at = t; event = done }) old new

-- of each lock of a part the seat knows what it knew; it has this moment
pub record KeepsLocksAt (now : ℕ) (old new : Seen) : Type 0 where
  pub locks : (k : ℕ) → k < book_lock → find_lock k new.held ≡ find_lock k old.held
  pub others : (k : ℕ) → book_lock < k → find_lock k old.held ≡ None → find_lock k new.held ≡ None
  pub book : find_lock book_lock new.held ≡ None
  pub moment : new.now ≡ now

-- the same at the moment that it had
abbrev pub KeepsLocks : Seen → Seen → Type 0
KeepsLocks old new = KeepsLocksAt old.now old new

-- of each lock of a part that it holds the seat knows the part of the state to which h leads, and has the names that it had for the lock
pub record KnowsAfter (h : List Entry) (old new : Seen) : Type 0 where
  pub some : (k : ℕ) (x : Known) → k < book_lock → find_lock k old.held ≡ Some x → find_lock k new.held ≡ Some (known_part (part_at old.input h k) x.names)
  pub none : (k : ℕ) → find_lock k old.held ≡ None → find_lock k new.held ≡ None
  pub book : find_lock book_lock new.held ≡ None
  pub now : new.now ≡ old.now

-- of each lock of a part but i the seat knows what it knew, at the same moment
pub record KeepsOthers (i : ℕ) (old new : Seen) : Type 0 where
  pub locks : (k : ℕ) → k < book_lock → k ≢ i → find_lock k new.held ≡ find_lock k old.held
  pub others : (k : ℕ) → book_lock < k → find_lock k old.held ≡ None → find_lock k new.held ≡ None
  pub book : find_lock book_lock new.held ≡ None
  pub moment : new.now ≡ old.now

-- the seat has added the entry to the book `old_book`, which is `book` then, and has kept it: as if it gave it back, sat as `mid`, and took it again
pub record GoesOnWith (set : LockTable) (old_book book : Chronicle) (entry : Entry) (old mid new : Sitting) : Type 0 where
  pub entered : HasEntered old_book entry old mid
  pub knows : KnowsAfter (old_book.history ++ entry ∷ []) old.view mid.view
  pub took : HasTakenBook set book mid new
  pub history : book.history ≡ old_book.history ++ entry ∷ []

-- the input has the core, and the seat has its name for a lock that it holds
pub record HasCore (r : ℕ) (v : Seen) : Type 0 where
  pub core : has_core v.input r ≡ true
  pub lock : ℕ
  pub name : HasName lock r v

-- the seat names the core whose decision the event is, or none where it is no decision
abbrev pub deciding_view : Event → Seen → Seen
deciding_view e v = record v { named = who_decides (event_action e) }

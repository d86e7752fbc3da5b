-- The name that an action of the tool hands over.
use Rattle.std.specs.Prelude.{◌≡◌, ◌<◌, ℕ, true, Option, Some, None}
use Rattle.sched_base.specs.declared.PoolId.{PoolId}
use Rattle.sched_model.specs.declared.action.Action.{Action}
use Rattle.sched_model.specs.Machine.{after}
use Rattle.journal_core.specs.Parts.{tool_lock}
use Rattle.composition_laws.specs.ListedNames.{HandsOver, ListsAsBefore}
use Rattle.lock_moves.specs.Sets.{HasName}
use Rattle.lock_moves.specs.SeatSight.{Holds, Seen, moved_name}
use Rattle.lock_moves.specs.Words.{has_name, name_number, book_lock}
use Rattle.machine_parts.specs.Places.{state_of}
use Rattle.machine_parts.specs.Told.{Told}
use Rattle.hall.specs.declared.whole.NameMove.{NameMove}

-- the lock of the pool, or the tool's where there is none
abbrev pub lock_or_tool : Option PoolId → ℕ
lock_or_tool None = tool_lock
lock_or_tool (Some i) = i.0

-- the action hands over the name of the input from the one lock to the other
pub record HandsNameOver (w : Told) (action : Action) (move : NameMove) : Type 0 where
  pub name : has_name w.input move.name ≡ true
  pub from : move.from.0 < book_lock
  pub to : move.to.0 < book_lock
  pub over : HandsOver (state_of w) (after w.input (state_of w) (state_of w).now action) (name_number move.name) move.from.0 move.to.0

-- the same where there is a move; where there is none every part lists the names that it listed
abbrev pub HandsName : Told → Action → Option NameMove → Type 0
HandsName w action None = ListsAsBefore (state_of w) (after w.input (state_of w) (state_of w).now action)
HandsName w action (Some move) = HandsNameOver w action move

-- the seat has the name for the one lock, and holds the other
pub record MayHand (v : Seen) (move : NameMove) : Type 0 where
  pub name : has_name v.input move.name ≡ true
  pub from : HasName move.from.0 (name_number move.name) v
  pub number : move.to.0 < book_lock
  pub to : Holds move.to.0 v

-- what a seat has seen, once the name was moved, if one moves
abbrev pub after_handing : Option NameMove → Seen → Seen
after_handing None v = v
after_handing (Some move) v = moved_name (name_number move.name) move.to.0 v

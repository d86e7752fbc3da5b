-- What a seat does with the book in its hands, where all that it knows is of the state to which the book's history leads.
use Rattle.std.specs.Prelude.{ℕ, ◌≡◌, ◌≢◌, ◌/◌, ◌++◌, ◌∷◌, [], List, Option, Some, None, length, true}
use Rattle.sched_base.specs.Numbers.{core, moment}
use Rattle.sched_base.specs.declared.Moment.{Moment}
use Rattle.sched_model.specs.declared.action.Action.{Action}
use Rattle.sched_model.specs.declared.action.Actor.{Actor}
use Rattle.sched_model.specs.declared.action.Actor.TheVariants.{Proc, Dom, Tool}
use Rattle.sched_model.specs.declared.event.Entry.{Entry}
use Rattle.sched_model.specs.declared.event.Event.{Event}
use Rattle.sched_model.specs.declared.event.Event.TheVariants as event
use Rattle.sched_model.specs.declared.machine.Machine.{Machine}
use Rattle.sched_model.specs.declared.state.State.{State}
use Rattle.sched_model.specs.Machine.{event_of, first_enabled_action, next_in_horizon}
use Rattle.sched_model.specs.Runs.{IsNext, IsRun, IsWholeRun}
use Rattle.journal_core.specs.Books.{Chronicle}
use Rattle.journal_core.specs.Histories.{reached_by}
use Rattle.composition_laws.specs.Actors.{first_by}
use Rattle.machine_parts.specs.Places.{state_of}
use Rattle.machine_parts.specs.Told.{told_of}
use Rattle.lock_moves.specs.declared.content.NameId.{NameId}
use Rattle.lock_moves.specs.declared.content.NameId.TheVariants as name_id
use Rattle.lock_moves.specs.SeatSight.{Sitting, Seen, find_lock}
use Rattle.lock_moves.specs.Words.{has_name}
use Rattle.hall.specs.declared.turns.Done.{Done}
use Rattle.hall.specs.declared.turns.Done.TheVariants as done
use Rattle.hall.specs.declared.turns.Full.{Full}
use Rattle.hall.specs.declared.turns.Turn.{Turn}
use Rattle.hall.specs.declared.turns.Turn.TheVariants as turn
use Rattle.hall.specs.Seats.{IsCountBefore}
use Rattle.hall.specs.Steps.{HasEntered, KeepsSight}
use Rattle.hall.specs.Turns.{HasActed, HasClosed, HasFinished, HasNothing, HasStepped, IsOverAt}

-- the name of an actor: its core's, or its domain's. g is the number of a core's processors
abbrev pub name_of : ℕ → Actor → Option NameId
name_of g (Proc p) = Some (name_id.Res (core (p.0 / g)))
name_of g (Dom d) = Some (name_id.Dom d)
name_of g Tool = None

-- the input has the name, which is that of the actor
pub record IsNamed (m : Machine) (actor : Actor) (name : NameId) : Type 0 where
  pub has : has_name m name ≡ true
  pub is : name_of m.config.granularity actor ≡ Some name

-- the seat holds the lock k alone
abbrev pub HoldsOnly : ℕ → Seen → Type 0
HoldsOnly k v = (j : ℕ) → j ≢ k → find_lock j v.held ≡ None

-- the state of the book
abbrev pub state_in : Chronicle → State
state_in b = state_of (told_of b)

-- what an answer for an actor says
pub record SettlesEvent (actor : Actor) (place : ℕ) (e : Event) (b : Chronicle) (old new : Sitting) : Type 0 where
  pub action : Action
  pub first : first_by b.input (state_in b) actor ≡ Some action
  pub is_event : e ≡ event_of b.input (state_in b) (state_in b).now action
  pub place_is : place ≡ length b.history
  pub entered : HasEntered b (record { at = moment (state_in b).now; event = e }) old new

pub record SettlesNothing (actor : Actor) (b : Chronicle) (old new : Sitting) : Type 0 where
  pub keeps : KeepsSight old new
  pub none : first_by b.input (state_in b) actor ≡ None

abbrev pub Settles : Actor → Done → Chronicle → Sitting → Sitting → Type 0
Settles actor (done.Event place e) b old new = SettlesEvent actor place e b old new
Settles actor done.Nothing b old new = SettlesNothing actor b old new

-- the book was full, and went back as it was
pub record FindsFull (full : Full) (b : Chronicle) (old new : Sitting) : Type 0 where
  pub keeps : KeepsSight old new
  pub events : full.events ≡ b.limit
  pub length_is : length b.history ≡ b.limit

pub record SettlesFull (actor : Actor) (full : Full) (b : Chronicle) (old new : Sitting) : Type 0 where
  pub finds : FindsFull full b old new
  pub due : first_by b.input (state_in b) actor ≢ None

-- the event was added to the book b, behind all that stood there; the number is that of the decisions of its core before it, where it is an
-- arrival
pub record AddsEvent (place : ℕ) (e : Event) (decides : ℕ) (b : Chronicle) (old new : Sitting) : Type 0 where
  pub place_is : place ≡ length b.history
  pub entered : HasEntered b (record { at = moment (state_in b).now; event = e }) old new
  pub counted : IsCountBefore b.input.config.granularity b.history e decides

-- what an answer for the whole machine says
pub record TurnsStep (place : ℕ) (e : Event) (decides : ℕ) (b : Chronicle) (old new : Sitting) : Type 0 where
  pub action : Action
  pub first : first_enabled_action b.input (state_in b) (state_in b).now ≡ Some action
  pub is_event : e ≡ event_of b.input (state_in b) (state_in b).now action
  pub adds : AddsEvent place e decides b old new

pub record TurnsClose (place : ℕ) (next : Moment) (b : Chronicle) (old new : Sitting) : Type 0 where
  pub quiet : first_enabled_action b.input (state_in b) (state_in b).now ≡ None
  pub next_is : next_in_horizon b.input (state_in b) ≡ Some next.0
  pub place_is : place ≡ length b.history
  pub entered : HasEntered b (record { at = moment (state_in b).now; event = event.End next }) old new
  pub grown : IsRun b.input (b.history ++ record { at = moment (state_in b).now; event = event.End next } ∷ [])

pub record TurnsFinish (place : ℕ) (b : Chronicle) (old new : Sitting) : Type 0 where
  pub quiet : first_enabled_action b.input (state_in b) (state_in b).now ≡ None
  pub last : next_in_horizon b.input (state_in b) ≡ None
  pub place_is : place ≡ length b.history
  pub entered : HasEntered b (record { at = moment (state_in b).now; event = event.Finish }) old new
  pub grown : IsRun b.input (b.history ++ record { at = moment (state_in b).now; event = event.Finish } ∷ [])

pub record TurnsOver (place : ℕ) (b : Chronicle) (old new : Sitting) : Type 0 where
  pub keeps : KeepsSight old new
  pub before : List Entry
  pub last : Entry
  pub history_is : b.history ≡ before ++ last ∷ []
  pub is_finish : last.event ≡ event.Finish
  pub place_is : place ≡ length before
  pub whole : IsWholeRun b.input b.history

abbrev pub Turns : Turn → ℕ → Chronicle → Sitting → Sitting → Type 0
Turns (turn.Stepped place e) decides b old new = TurnsStep place e decides b old new
Turns (turn.Closed place next) decides b old new = TurnsClose place next b old new
Turns (turn.Finished place) decides b old new = TurnsFinish place b old new
Turns (turn.Over place) decides b old new = TurnsOver place b old new

pub record FullWhole (full : Full) (b : Chronicle) (old new : Sitting) : Type 0 where
  pub finds : FindsFull full b old new
  pub due : (e : Entry) × IsNext b.input (reached_by b.input b.history) e

-- the same of a whole call, which had seen `old` at its beginning
abbrev pub DoneIn : Actor → Done → Seen → Seen → Type 0
DoneIn actor (done.Event place e) old new = (before : List Entry) × HasActed actor place e before old new
DoneIn actor done.Nothing old new = HasNothing actor old new

abbrev pub TurnIn : Turn → ℕ → Seen → Seen → Type 0
TurnIn (turn.Stepped place e) decides old new = (before : List Entry) × HasStepped place e before old new × IsCountBefore old.input.config.granularity before e decides
TurnIn (turn.Closed place next) decides old new = (before : List Entry) × HasClosed place next before old new
TurnIn (turn.Finished place) decides old new = (before : List Entry) × HasFinished place before old new
TurnIn (turn.Over place) decides old new = IsOverAt place old new

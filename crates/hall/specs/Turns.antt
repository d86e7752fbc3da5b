-- What the calls of a hall answer, and what a seat has seen and done then.
use Rattle.std.specs.Prelude.{ℕ, ◌≡◌, ◌≢◌, ◌≤◌, ◌<◌, ◌/◌, ◌*◌, ◌++◌, ◌∷◌, [], List, Some, None, Bool, true, length, nat_lt}
use mathlib.Core.List.{IsPrefix}
use Rattle.sched_base.specs.Numbers.{moment}
use Rattle.sched_base.specs.declared.Moment.{Moment}
use Rattle.sched_base.specs.declared.ProcId.{ProcId}
use Rattle.sched_model.specs.declared.action.Action.{Action}
use Rattle.sched_model.specs.declared.action.Actor.{Actor}
use Rattle.sched_model.specs.declared.action.Actor.TheVariants.{Proc, Dom, Tool}
use Rattle.sched_model.specs.declared.config.Config.{Config}
use Rattle.sched_model.specs.declared.event.Entry.{Entry}
use Rattle.sched_model.specs.declared.event.Event.{Event}
use Rattle.sched_model.specs.declared.event.Event.TheVariants as event
use Rattle.sched_model.specs.Machine.{event_of, first_enabled_action, next_in_horizon}
use Rattle.sched_model.specs.Runs.{IsNext, IsRun, IsWholeRun}
use Rattle.journal_core.specs.Histories.{decides_at, reached_by, state_at}
use Rattle.composition_laws.specs.Actors.{first_by}
use Rattle.lock_moves.specs.SeatSight.{Seen, has_loaded}
use Rattle.lock_moves.specs.Sets.{sitting_with}
use Rattle.hall.specs.declared.seat.Arrival.{Arrival}
use Rattle.hall.specs.declared.turns.Done.{Done}
use Rattle.hall.specs.declared.turns.Done.TheVariants as done
use Rattle.hall.specs.declared.turns.Full.{Full}
use Rattle.hall.specs.declared.turns.Turn.{Turn}
use Rattle.hall.specs.declared.turns.Turn.TheVariants as turn
use Rattle.hall.specs.declared.turns.Waits.{Waits}
use Rattle.hall.specs.declared.turns.Waits.TheVariants as waits
use Rattle.hall.specs.Seats.{Seated, kept_arrival}

-- whether the actor is one of the input
abbrev pub is_actor : Config → Actor → Bool
is_actor config (Proc p) = nat_lt p.0 config.processors
is_actor config (Dom d) = nat_lt d.0 (length config.domains)
is_actor config Tool = true

-- the seat has looked at the book and added nothing: its front is the history, which goes on from what it had seen
pub record Looked (old new : Seen) : Type 0 where
  pub begins : IsPrefix old.front new.front
  pub run : IsRun old.input new.front
  pub own : new.own ≡ old.own
  pub took : old.takes < new.takes
  pub alone : old.shares ≡ 1024 → new.front ≡ old.front

-- the seat has added the event at this place, behind the history `before`, which goes on from what it had seen
pub record Added (place : ℕ) (e : Event) (before : List Entry) (old new : Seen) : Type 0 where
  pub begins : IsPrefix old.front before
  pub place_is : place ≡ length before
  pub front : new.front ≡ before ++ record { at = moment (state_at old.input before).now; event = e } ∷ []
  pub run : IsRun old.input new.front
  pub own : new.own ≡ old.own ++ place ∷ []
  pub took : old.takes < new.takes
  pub alone : old.shares ≡ 1024 → before ≡ old.front

-- the book is full: its limit is the number of its entries
pub record IsFull (full : Full) (v : Seen) : Type 0 where
  pub events : full.events ≡ v.limit
  pub length_is : length v.front ≡ v.limit

-- the seat has added the event of the first action of the actor in the state in which the event stands
pub record HasActed (actor : Actor) (place : ℕ) (e : Event) (before : List Entry) (old new : Seen) : Type 0 where
  pub action : Action
  pub first : first_by old.input (state_at old.input before) actor ≡ Some action
  pub is_event : e ≡ event_of old.input (state_at old.input before) (state_at old.input before).now action
  pub added : Added place e before old new

-- the seat has looked, and the actor has no action that may come in the state to which the front leads
pub record HasNothing (actor : Actor) (old new : Seen) : Type 0 where
  pub looked : Looked old new
  pub none : first_by old.input (state_at old.input new.front) actor ≡ None

-- the seat has looked, and found the book full; the actor has an action that may come
pub record ActsFull (actor : Actor) (full : Full) (old new : Seen) : Type 0 where
  pub looked : Looked old new
  pub full_is : IsFull full new
  pub due : first_by old.input (state_at old.input new.front) actor ≢ None

-- the seat has added the event of the first action of the whole machine
pub record HasStepped (place : ℕ) (e : Event) (before : List Entry) (old new : Seen) : Type 0 where
  pub action : Action
  pub first : first_enabled_action old.input (state_at old.input before) (state_at old.input before).now ≡ Some action
  pub is_event : e ≡ event_of old.input (state_at old.input before) (state_at old.input before).now action
  pub added : Added place e before old new

-- the seat has ended the moment, at which nothing more may come, and the next one follows
pub record HasClosed (place : ℕ) (next : Moment) (before : List Entry) (old new : Seen) : Type 0 where
  pub quiet : first_enabled_action old.input (state_at old.input before) (state_at old.input before).now ≡ None
  pub next_is : next_in_horizon old.input (state_at old.input before) ≡ Some next.0
  pub added : Added place (event.End next) before old new

-- the seat has ended the run: nothing more may come up to the horizon
pub record HasFinished (place : ℕ) (before : List Entry) (old new : Seen) : Type 0 where
  pub quiet : first_enabled_action old.input (state_at old.input before) (state_at old.input before).now ≡ None
  pub last : next_in_horizon old.input (state_at old.input before) ≡ None
  pub added : Added place event.Finish before old new

-- the seat has looked, and the run was over: its last entry, a Finish, has this place
pub record IsOverAt (place : ℕ) (old new : Seen) : Type 0 where
  pub looked : Looked old new
  pub before : List Entry
  pub last : Entry
  pub front : new.front ≡ before ++ last ∷ []
  pub is_finish : last.event ≡ event.Finish
  pub place_is : place ≡ length before
  pub whole : IsWholeRun old.input new.front

-- the seat has looked, and found the book full; the run is not over, so there is an entry that may come next
pub record TurnsFull (full : Full) (old new : Seen) : Type 0 where
  pub looked : Looked old new
  pub full_is : IsFull full new
  pub due : (e : Entry) × IsNext old.input (reached_by old.input new.front) e

-- the arrival that is kept after an event that the seat added behind the history `before`
abbrev pub KeepsArrival : List Entry → Event → Seated → Seated → Type 0
KeepsArrival before e old new = new.arrived ≡ kept_arrival old.sitting.view.input.config.granularity before e old.arrived

-- what an answer of `act` says
abbrev pub IsDone : Actor → Done → Seated → Seated → Type 0
IsDone actor (done.Event place e) old new = (before : List Entry) × HasActed actor place e before old.sitting.view new.sitting.view × KeepsArrival before e old new
IsDone actor done.Nothing old new = HasNothing actor old.sitting.view new.sitting.view × (new.arrived ≡ old.arrived)

-- what an answer of `close_or_step` says
abbrev pub IsTurn : Turn → Seated → Seated → Type 0
IsTurn (turn.Stepped place e) old new = (before : List Entry) × HasStepped place e before old.sitting.view new.sitting.view × KeepsArrival before e old new
IsTurn (turn.Closed place next) old new = (before : List Entry) × HasClosed place next before old.sitting.view new.sitting.view × (new.arrived ≡ old.arrived)
IsTurn (turn.Finished place) old new = (before : List Entry) × HasFinished place before old.sitting.view new.sitting.view × (new.arrived ≡ old.arrived)
IsTurn (turn.Over place) old new = IsOverAt place old.sitting.view new.sitting.view × (new.arrived ≡ old.arrived)

-- the seat keeps an arrival of the processor p, which is not the first of its core
pub record Awaits (g : ℕ) (p : ProcId) (s : Seated) (a : Arrival) : Type 0 where
  pub kept : s.arrived ≡ Some a
  pub is_p : a.p.0 ≡ p.0
  pub follows : p.0 ≢ p.0 / g * g

-- the stage word of the core was loaded, and was n; in some history that begins with the front the core has at most so many decisions
pub record HasLoaded (r n : ℕ) (old new : Seated) : Type 0 where
  pub seat : new ≡ record old { sitting = sitting_with old.sitting (has_loaded r n old.sitting.view) }
  pub history : List Entry
  pub begins : IsPrefix old.sitting.view.front history
  pub counts : decides_at history r ≤ n

-- what an answer of `still_waits` says: the number that was loaded is the kept one, or greater, or nothing was loaded
abbrev pub IsWaiting : ℕ → ProcId → Waits → Seated → Seated → Type 0
IsWaiting g p waits.Still old new = (a : Arrival) × Awaits g p old a × HasLoaded (p.0 / g) a.decides old new
IsWaiting g p (waits.Gone n) old new = (a : Arrival) × Awaits g p old a × HasLoaded (p.0 / g) n old new × (a.decides < n)
IsWaiting g p waits.NotWaiting old new = (new ≡ old) × ((a : Arrival) → Awaits g p old a → ⊥)

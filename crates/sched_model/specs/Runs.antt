-- Runs: the lists of entries that the machine may give.
use Rattle.std.specs.Prelude.{◌≡◌, ℕ, Bool, true, false, List, [], ◌∷◌, Option, Some, None, ⊤}
use Rattle.sched_model.specs.declared.event.Event.{Event}
use Rattle.sched_model.specs.declared.event.Event.TheVariants as event
use Rattle.sched_model.specs.declared.event.Entry.{Entry}
use Rattle.sched_model.specs.State.{Machine, State}
use Rattle.sched_model.specs.Opening.{opening}
use Rattle.sched_model.specs.Pool.{Action}
use Rattle.sched_model.specs.declared.action.Action.TheVariants.{Stall, Xl, Moved, DomMoved, Wake, Block, Slice, Repl, Refill, Arrive, Decide, Leave, Save}
use Rattle.sched_model.specs.Machine.{is_action_enabled, first_enabled_action, event_of, after, next_in_horizon}
use Rattle.sched_base.specs.Numbers.{moment}

-- the action whose event it is, where it is one of an action
abbrev pub event_action : Event → Option Action
event_action (event.Stall p until) = Some Stall
event_action (event.Xl k answer) = Some Xl
event_action (event.Moved r to) = Some (Moved r)
event_action (event.DomMoved d to) = Some (DomMoved d)
event_action (event.Wake v) = Some (Wake v)
event_action (event.Block p v) = Some (Block p)
event_action (event.Slice r) = Some (Slice r)
event_action (event.Repl u start deadline budget extra) = Some (Repl u)
event_action (event.Refill d periods budget) = Some (Refill d)
event_action (event.Arrive p) = Some (Arrive p)
event_action (event.Decide r unit due late reset) = Some (Decide r)
event_action (event.Leave p v) = Some (Leave p)
event_action (event.Save r u queued) = Some (Save r)
event_action (event.End next) = None
event_action event.Finish = None

-- the next moment that an End names
abbrev pub named_next_moment : Event → Option ℕ
named_next_moment (event.End next) = Some next.0
named_next_moment _ = None

-- where a run has come to: the state, and whether it is over
pub record Reached : Type 0 where
  pub state : State
  pub over : Bool

-- a run that has come to the state and is not over
abbrev pub open_at : State → Reached
open_at s = record { state = s; over = false }

-- where the run has come to after an entry without an action: the moment that End names, or the end of the run
abbrev pub after_quiet : Option ℕ → Reached → Reached
after_quiet None from = record from { over = true }
after_quiet (Some next) from = record from { state = record from.state { now = next } }

-- after an event, with the action whose event it is
abbrev pub after_event : Machine → Event → Option Action → Reached → Reached
after_event m e None from = after_quiet (named_next_moment e) from
after_event m e (Some action) from = record from { state = after m from.state from.state.now action }

-- after an entry
abbrev pub after_entry : Machine → Reached → Entry → Reached
after_entry m from entry = after_event m entry.event (event_action entry.event) from

-- after several entries
abbrev pub after_entries : Machine → Reached → List Entry → Reached
after_entries m from [] = from
after_entries m from (entry ∷ entries) = after_entries m (after_entry m from entry) entries

-- an action's event may come where it is enabled, with the printed fields of that action; End and Finish where nothing is enabled,
-- End with the next moment within the horizon, Finish where there is none
abbrev pub IsNextEvent : Machine → State → Event → Option Action → Type 0
IsNextEvent m s e (Some action) = (is_action_enabled m s s.now action ≡ true) × (e ≡ event_of m s s.now action)
IsNextEvent m s e None = (first_enabled_action m s s.now ≡ None) × (next_in_horizon m s ≡ named_next_moment e)

-- the entry may come next
pub record IsNext (m : Machine) (from : Reached) (entry : Entry) : Type 0 where
  pub goes_on : from.over ≡ false
  pub moment : entry.at.0 ≡ from.state.now
  pub event : IsNextEvent m from.state entry.event (event_action entry.event)

-- each entry may come next after those before it
abbrev pub IsRunFrom : Machine → Reached → List Entry → Type 0
IsRunFrom m from [] = ⊤
IsRunFrom m from (entry ∷ entries) = IsNext m from entry × IsRunFrom m (after_entry m from entry) entries

-- where every run begins
abbrev pub run_start : Machine → Reached
run_start m = open_at (opening m)

-- the entries are a run of the machine; the run is whole where it is over
abbrev pub IsRun : Machine → List Entry → Type 0
IsRun m entries = IsRunFrom m (run_start m) entries

-- the entries are a run that is over
abbrev pub IsWholeRun : Machine → List Entry → Type 0
IsWholeRun m entries = IsRun m entries × ((after_entries m (run_start m) entries).over ≡ true)

-- the entry of an action that may come now
abbrev pub action_entry : Machine → State → Action → Entry
action_entry m s action = record { at = moment s.now; event = event_of m s s.now action }

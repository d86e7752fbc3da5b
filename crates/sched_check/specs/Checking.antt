-- What a checker sees, and the entries that it takes.
use Rattle.std.specs.Prelude.{◌≡◌, ℕ, Bool, true, List, [], ◌∷◌, Option, Some, None, ⊤}
use Rattle.sched_model.specs.declared.action.Action.{Action}
use Rattle.sched_model.specs.declared.event.Event.{Event}
use Rattle.sched_model.specs.declared.event.Entry.{Entry}
use Rattle.sched_model.specs.declared.machine.Machine.{Machine}
use Rattle.sched_model.specs.declared.state.State.{State}
use Rattle.sched_model.specs.Machine.{is_action_enabled, first_enabled_action, event_of, next_in_horizon}
use Rattle.sched_model.specs.Runs.{Reached, IsNext, event_action, run_start, after_entry, after_entries}
use Rattle.run_laws.specs.RunLaws.{TakesFirst}

-- a machine, whether the first action that may come is asked for, and where the run has come to
pub record Checking : Type 0 where
  pub machine : Machine
  pub ordered : Bool
  pub reached : Reached

-- the event is the one of the action; where that is asked for, the action is the first that may come
pub record HasTurn (ordered : Bool) (m : Machine) (s : State) (e : Event) (action : Action) : Type 0 where
  pub fields : e ≡ event_of m s s.now action
  pub first : ordered ≡ true → first_enabled_action m s s.now ≡ Some action

-- the event is the one of the action, which may come; where that is asked for, it is the first that may
pub record IsDue (ordered : Bool) (m : Machine) (s : State) (e : Event) (action : Action) : Type 0 where
  pub enabled : is_action_enabled m s s.now action ≡ true
  pub fields : e ≡ event_of m s s.now action
  pub first : ordered ≡ true → first_enabled_action m s s.now ≡ Some action

-- nothing may come now, and the moment that is named, if one is, is the next one within the horizon
pub record IsQuietDue (m : Machine) (s : State) (named : Option ℕ) : Type 0 where
  pub nothing : first_enabled_action m s s.now ≡ None
  pub next : next_in_horizon m s ≡ named

-- the entry may come next, and takes the first action that may come, where that is asked for
pub record IsTaken (m : Machine) (ordered : Bool) (from : Reached) (entry : Entry) : Type 0 where
  pub next : IsNext m from entry
  pub first : ordered ≡ true → TakesFirst m from.state (event_action entry.event)

-- each of the entries is taken after those before it
abbrev pub AreTaken : Machine → Bool → Reached → List Entry → Type 0
AreTaken m ordered from [] = ⊤
AreTaken m ordered from (entry ∷ entries) = IsTaken m ordered from entry × AreTaken m ordered (after_entry m from entry) entries

-- the entries are taken from the opening on, and then the entry is
pub record TakesOneMore (m : Machine) (ordered : Bool) (entries : List Entry) (entry : Entry) : Type 0 where
  pub before : AreTaken m ordered (run_start m) entries
  pub last : IsTaken m ordered (after_entries m (run_start m) entries) entry

-- What the laws of runs say.
use Rattle.std.specs.Prelude.{◌≡◌, ◌≢◌, ◌<◌, [], ◌++◌, ◌∷◌, ℕ, true, false, List, Option, Some, None, ⊤}
use Rattle.std.specs.List.{All}
use Rattle.sched_model.specs.declared.action.Action.{Action}
use Rattle.sched_model.specs.declared.event.Entry.{Entry}
use Rattle.sched_model.specs.declared.machine.Machine.{Machine}
use Rattle.sched_model.specs.declared.state.State.{State}
use Rattle.sched_model.specs.Actions.{candidates}
use Rattle.sched_model.specs.Machine.{is_action_enabled, first_enabled_action}
use Rattle.sched_model.specs.Runs.{Reached, IsRun, IsNext, event_action, run_start, after_entry, after_entries}

-- the entries are a run, and the entry may come next
pub record GoesOn (m : Machine) (entries : List Entry) (entry : Entry) : Type 0 where
  pub run : IsRun m entries
  pub next : IsNext m (after_entries m (run_start m) entries) entry

-- the entries lead to the end of the run
abbrev pub IsOver : Machine → List Entry → Type 0
IsOver m entries = (after_entries m (run_start m) entries).over ≡ true

-- none of the actions may come at t
abbrev pub NoneMayCome : Machine → State → ℕ → List Action → Type 0
NoneMayCome m s t actions = All (λ a. is_action_enabled m s t a ≡ false) actions

-- the action is a candidate that may come at t, and none before it may
pub record ComesFirst (m : Machine) (s : State) (t : ℕ) (action : Action) : Type 0 where
  pub before : List Action
  pub behind : List Action
  pub candidate : candidates m.config ≡ before ++ action ∷ behind
  pub enabled : is_action_enabled m s t action ≡ true
  pub none_before : NoneMayCome m s t before

-- the first action that may come at t, or none where no candidate may
abbrev pub IsFirst : Machine → State → ℕ → Option Action → Type 0
IsFirst m s t None = NoneMayCome m s t (candidates m.config)
IsFirst m s t (Some action) = ComesFirst m s t action

-- something may come at n, which is later than t, and nothing at a moment between them
pub record IsLeastLater (m : Machine) (s : State) (t n : ℕ) : Type 0 where
  pub later : t < n
  pub something : first_enabled_action m s n ≢ None
  pub nothing_between : (between : ℕ) → t < between → between < n → first_enabled_action m s between ≡ None

-- the least moment after t at which something may come, or none where nothing may come after t
abbrev pub IsNextMoment : Machine → State → ℕ → Option ℕ → Type 0
IsNextMoment m s t None = (later : ℕ) → t < later → first_enabled_action m s later ≡ None
IsNextMoment m s t (Some n) = IsLeastLater m s t n

-- the action is the first one that may come, where the entry is one of an action
abbrev pub TakesFirst : Machine → State → Option Action → Type 0
TakesFirst m s None = ⊤
TakesFirst m s (Some action) = first_enabled_action m s s.now ≡ Some action

-- each entry takes the first action that may come
abbrev pub IsOrderedFrom : Machine → Reached → List Entry → Type 0
IsOrderedFrom m from [] = ⊤
IsOrderedFrom m from (entry ∷ entries) = TakesFirst m from.state (event_action entry.event) × IsOrderedFrom m (after_entry m from entry) entries

-- the entries are a run, and each takes the first action that may come
pub record IsOrderedRun (m : Machine) (entries : List Entry) : Type 0 where
  pub run : IsRun m entries
  pub ordered : IsOrderedFrom m (run_start m) entries

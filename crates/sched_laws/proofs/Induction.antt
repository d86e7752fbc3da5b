-- What each enabled action keeps holds in every state of a run.
use Rattle.std.proofs.Common.{◌≡◌, ℕ, true, List, [], ◌∷◌}
use Rattle.std.specs.Prelude.{Option, Some, None}
use Rattle.sched_model.specs.declared.event.Event.{Event}
use Rattle.sched_model.specs.declared.event.Entry.{Entry}
use Rattle.sched_model.specs.declared.machine.Machine.{Machine}
use Rattle.sched_model.specs.declared.state.State.{State}
use Rattle.sched_model.specs.Opening.{opening}
use Rattle.sched_model.specs.declared.action.Action.{Action}
use Rattle.sched_model.specs.Machine.{is_action_enabled, after}
use Rattle.sched_model.specs.Runs.{Reached, event_action, named_next_moment, after_quiet, after_event, IsNextEvent, IsRunFrom, IsRun, run_start, after_entry, after_entries}

module _ (m : Machine) (J : State → Type 0) (acts : (s : State) (action : Action) → is_action_enabled m s s.now action ≡ true → J s → J (after m s s.now action)) (passes : (s : State) (next : ℕ) → J s → J (record s { now = next })) where
  kept_by_quiet : (end : Option ℕ) (from : Reached) → J from.state → J (after_quiet end from).state
  kept_by_quiet None from here = here
  kept_by_quiet (Some next) from here = passes from.state next here

  kept_by_event : (e : Event) (action : Option Action) (from : Reached) → IsNextEvent m from.state e action → J from.state → J (after_event m e action from).state
  kept_by_event e None from next here = kept_by_quiet (named_next_moment e) from here
  kept_by_event e (Some action) from next here = acts from.state action next.0 here

  pub kept_from : (from : Reached) (entries : List Entry) → IsRunFrom m from entries → J from.state → J (after_entries m from entries).state
  kept_from from [] run here = here
  kept_from from (entry ∷ entries) run here =
      kept_from (after_entry m from entry) entries run.1 (kept_by_event entry.event (event_action entry.event) from run.0.event here)

  pub kept_by_runs : (entries : List Entry) → IsRun m entries → J (opening m) → J (after_entries m (run_start m) entries).state
  kept_by_runs entries run here = kept_from (run_start m) entries run here

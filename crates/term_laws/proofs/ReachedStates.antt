-- The states that runs lead to, and what is known of them.
use Rattle.sched_model.proofs.RunLemmas.{IsRunFrom-append, after_entries-append}
use Rattle.std.proofs.Common.{◌≡◌, ℕ, Bool, true, false, List, [], ◌∷◌, ◌++◌, refl, ap, subst, sym, ◌∙◌}
use Rattle.std.specs.Prelude.{Option, Some, None}
use Rattle.sched_model.specs.declared.action.Action.{Action}
use Rattle.sched_model.specs.declared.event.Event.{Event}
use Rattle.sched_model.specs.declared.event.Entry.{Entry}
use Rattle.sched_model.specs.declared.machine.Machine.{Machine}
use Rattle.sched_model.specs.declared.state.State.{State}
use Rattle.sched_model.specs.declared.state.Pool.{Pool}
use Rattle.sched_model.specs.Places.{at_place}
use Rattle.sched_model.specs.CheckedMachine.{IsChecked}
use Rattle.sched_model.specs.Machine.{is_action_enabled, event_of, after}
use Rattle.sched_model.specs.Runs.{Reached, event_action, named_next_moment, after_quiet, after_event, after_entry, after_entries, run_start, IsNext, IsNextEvent, IsRun}
use Rattle.sched_laws.proofs.Kept.{IsApart}
use Rattle.sched_laws.specs.PoolFacts.{UnitsAreOwn}
use Rattle.sched_laws.specs.PoolFacts.{OnePlace}
use Rattle.sched_laws.proofs.Reached.{is_apart, units_are_own, one_place}
use Rattle.state_ranges.specs.Ranges.{StateInRange}
use Rattle.state_ranges.proofs.Done.{in_range}
use Rattle.composition_laws.proofs.Housed.{Housed}
use Rattle.composition_laws.proofs.Begun.{housed_opening}
use Rattle.composition_laws.proofs.NamesLaw.{housed_from}

-- a run that is not over leads to the state
pub record IsReached (m : Machine) (s : State) : Type 0 where
  pub before : List Entry
  pub run : IsRun m before
  pub leads : after_entries m (run_start m) before ≡ record { state = s; over = false }

pub reached_opening : (m : Machine) → IsReached m (run_start m).state
reached_opening m = record { before = []; run = tt; leads = refl }

pub reached_next : (m : Machine) (from : Reached) (entry : Entry) → IsNext m from entry → IsReached m from.state → IsReached m (after_entry m from entry).state
reached_next m from entry next r = go_event (event_action entry.event) (after_entries-append m (run_start m) r.before entry ∙ ap (λ (f : Reached). after_entry m f entry) here)
  where
    here : after_entries m (run_start m) r.before ≡ from
    here = r.leads ∙ sym (ap (λ (b : Bool). record { state = from.state; over = b }) next.goes_on)

    run : IsRun m (r.before ++ entry ∷ [])
    run = IsRunFrom-append m (run_start m) r.before entry r.run (subst (λ (f : Reached). IsNext m f entry) (sym here) next)

    go_quiet : (end : Option ℕ) → after_entries m (run_start m) (r.before ++ entry ∷ []) ≡ after_quiet end from → IsReached m (after_quiet end from).state
    go_quiet None leads = r
    go_quiet (Some n) leads = record { before = r.before ++ entry ∷ []; run = run; leads = leads ∙ ap (λ (b : Bool). record { state = record from.state { now = n }; over = b }) next.goes_on }

    go_event : (o : Option Action) → after_entries m (run_start m) (r.before ++ entry ∷ []) ≡ after_event m entry.event o from → IsReached m (after_event m entry.event o from).state
    go_event None leads = go_quiet (named_next_moment entry.event) leads
    go_event (Some action) leads = record { before = r.before ++ entry ∷ []; run = run; leads = leads ∙ ap (λ (b : Bool). record { state = after m from.state from.state.now action; over = b }) next.goes_on }

-- what is known of a state that a run leads to
pub record Known (m : Machine) (s : State) : Type 0 where
  pub apart : IsApart s
  pub own : (i : ℕ) (p : Pool) → at_place s.pools i ≡ Some p → UnitsAreOwn p
  pub one : (i : ℕ) (p : Pool) → at_place s.pools i ≡ Some p → OnePlace m.config.granularity p
  pub range : StateInRange m s
  pub housed : Housed m s

pub knows : (m : Machine) → IsChecked m → (s : State) → IsReached m s → Known m s
knows m checked s r =
    subst (Known m) (ap (λ (x : Reached). x.state) r.leads) (record {
      apart = is_apart m checked r.before r.run;
      own = λ i p at. units_are_own m checked r.before r.run i p at;
      one = λ i p at. one_place m checked r.before r.run i p at;
      range = in_range m checked r.before r.run;
      housed = housed_from m checked [] r.before (run_start m) refl tt r.run (housed_opening m checked);
    })

-- what holds of an entry and of the states before and after it, by the entry's action
module _ (m : Machine) (P : State → Event → State → Type 0) (stays : (s : State) (e : Event) → event_action e ≡ None → P s e s) (passes : (s : State) (e : Event) (n : ℕ) → event_action e ≡ None → P s e (record s { now = n }))
    (acts : (s : State) (action : Action) → IsReached m s → IsReached m (after m s s.now action) → is_action_enabled m s s.now action ≡ true → P s (event_of m s s.now action) (after m s s.now action)) where
  pub by_action : (from : Reached) (entry : Entry) → IsNext m from entry → IsReached m from.state → P from.state entry.event (after_entry m from entry).state
  by_action from entry next reached = go (event_action entry.event) refl next.event
    where
      go_quiet : (end : Option ℕ) → event_action entry.event ≡ None → P from.state entry.event (after_quiet end from).state
      go_quiet None is = stays from.state entry.event is
      go_quiet (Some n) is = passes from.state entry.event n is

      go : (o : Option Action) → event_action entry.event ≡ o → IsNextEvent m from.state entry.event o → P from.state entry.event (after_event m entry.event o from).state
      go None is ev = go_quiet (named_next_moment entry.event) is
      go (Some action) is ev =
          subst (λ (e : Event). P from.state e (after m from.state from.state.now action)) (sym ev.1)
          (acts from.state action reached (subst (λ (o : Option Action). IsReached m (after_event m entry.event o from).state) is (reached_next m from entry next reached)) ev.0)

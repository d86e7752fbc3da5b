-- A state that a run leads to, and those that it leads on to.
use Rattle.std.proofs.Common.{◌≡◌, true, false, [], ◌∷◌, ◌++◌, refl, sym, ap, subst, ◌∙◌, ℕ}
use Rattle.std.specs.Prelude.{Some, None}
use Rattle.sched_base.specs.Numbers.{moment}
use Rattle.sched_model.specs.declared.event.Event.TheVariants as event
use Rattle.sched_model.specs.declared.event.Entry.{Entry}
use Rattle.sched_model.specs.declared.machine.Machine.{Machine}
use Rattle.sched_model.specs.declared.action.Action.{Action}
use Rattle.sched_model.specs.declared.state.State.{State}
use Rattle.sched_model.specs.Machine.{is_action_enabled, first_enabled_action, event_of, after, next_in_horizon}
use Rattle.sched_model.specs.Runs.{Reached, IsNext, run_start, after_entry}
use Rattle.sched_model.proofs.RunLemmas.{after_entries-append, IsRunFrom-append, IsNext-action, after_entry-action}
use Rattle.state_ranges.specs.Ranges.{StateInRange}
use Rattle.state_ranges.proofs.Done.{in_range}
use Rattle.sched_plain.specs.ReachedStates.{Reachable, Stands}

-- one more entry
reach-entry : (m : Machine) (s next : State) (entry : Entry) → Reachable m s → IsNext m (record { state = s; over = false }) entry → after_entry m (record { state = s; over = false }) entry ≡ record { state = next; over = false } → Reachable m next
reach-entry m s next entry reached comes leads = record {
  entries = reached.entries ++ entry ∷ [];
  run = IsRunFrom-append m (run_start m) reached.entries entry reached.run (subst (λ (from : Reached). IsNext m from entry) (sym reached.leads) comes);
  leads = after_entries-append m (run_start m) reached.entries entry ∙ ap (λ (from : Reached). after_entry m from entry) reached.leads ∙ leads;
}

-- the state after an action that may come
pub reach-after : (m : Machine) (s : State) (action : Action) → Reachable m s → is_action_enabled m s s.now action ≡ true → Reachable m (after m s s.now action)
reach-after m s action reached on = reach-entry m s (after m s s.now action) (record { at = moment s.now; event = event_of m s s.now action }) reached (IsNext-action m s action on) (after_entry-action m s action)

-- the next moment, where nothing may come now
pub reach-next : (m : Machine) (s : State) (next : ℕ) → Reachable m s → first_enabled_action m s s.now ≡ None → next_in_horizon m s ≡ Some next → Reachable m (record s { now = next })
reach-next m s next reached nothing is = reach-entry m s (record s { now = next }) (record { at = moment s.now; event = event.End (moment next) }) reached (record { goes_on = refl; moment = refl; event = (nothing, is) }) refl

-- the law of ranges
pub reached-in_range : (m : Machine) (s : State) → Stands m s → StateInRange m s
reached-in_range m s stands = subst (λ (from : Reached). StateInRange m from.state) stands.reached.leads (in_range m stands.checked stands.reached.entries stands.reached.run)

-- where the machine stands after an action that may come, and at the next moment
pub stands-after : (m : Machine) (s : State) (action : Action) → Stands m s → is_action_enabled m s s.now action ≡ true → Stands m (after m s s.now action)
stands-after m s action stands on = record { checked = stands.checked; reached = reach-after m s action stands.reached on }

pub stands-next : (m : Machine) (s : State) (next : ℕ) → Stands m s → first_enabled_action m s s.now ≡ None → next_in_horizon m s ≡ Some next → Stands m (record s { now = next })
stands-next m s next stands nothing is = record { checked = stands.checked; reached = reach-next m s next stands.reached nothing is }

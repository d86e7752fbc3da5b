-- An event of a pool is an event of its home.
use Rattle.std.proofs.Common.{◌≡◌, ◌∙◌, ℕ, true, refl, sym, ap, subst}
use Rattle.std.specs.Prelude.{Option, Some, None, unwrap_or}
use Rattle.sched_model.specs.declared.action.Action.{Action}
use Rattle.sched_model.specs.declared.action.Action.TheVariants.{Stall, Xl, Moved, DomMoved}
use Rattle.sched_model.specs.declared.machine.Machine.{Machine}
use Rattle.sched_model.specs.declared.state.Pool.{Pool}
use Rattle.sched_model.specs.declared.state.State.{State}
use Rattle.sched_model.specs.Actions.{IsOfPool, home_pool_of_action}
use Rattle.sched_model.specs.Machine.{is_action_enabled, event_of, home_pool}
use Rattle.sched_model.specs.Opening.{absent_pool}
use Rattle.sched_model.specs.Places.{at_place}
use Rattle.sched_model.specs.Pool.{event_in}
use Rattle.composition_laws.specs.OrderLaws.{ComesInPool}
use Rattle.composition_laws.proofs.Home.{pool_is_home}
use Rattle.machine_parts.specs.Told.{Told}
use Rattle.machine_parts.specs.Places.{GoesOn, state_of}
use Rattle.machine_parts.proofs.Going.{state_of-is}

event-home : (m : Machine) (s : State) (t : ℕ) (action : Action) → IsOfPool action → event_of m s t action ≡ event_in m.config.granularity t (home_pool m s action) action
event-home m s t Stall own = absurd own
event-home m s t Xl own = absurd own
event-home m s t (Moved r) own = absurd own
event-home m s t (DomMoved d) own = absurd own
event-home m s t action own = refl

-- the event of a pool that is the home
pub event-there : (m : Machine) (s : State) (t : ℕ) (action : Action) (i : ℕ) (pool : Pool) → IsOfPool action → home_pool_of_action m.config.granularity s action ≡ Some i → at_place s.pools i ≡ Some pool
    → event_of m s t action ≡ event_in m.config.granularity t pool action
event-there m s t action i pool own home there =
    event-home m s t action own
    ∙ ap (λ (p : Pool). event_in m.config.granularity t p action)
    (ap (λ (o : Option ℕ). elim o as (λ _. Pool) [ None ↦ absent_pool m.config | Some k ↦ unwrap_or (at_place s.pools k) (absent_pool m.config) ]) home ∙ ap (λ (o : Option Pool). unwrap_or o (absent_pool m.config)) there)

-- where an action may come whose home is a pool, that pool lets it come
pub comes-there : (w : Told) → GoesOn w → (action : Action) (i : ℕ) → is_action_enabled w.input (state_of w) (state_of w).now action ≡ true → home_pool_of_action w.input.config.granularity (state_of w) action ≡ Some i
    → ComesInPool w.input (state_of w) (state_of w).now i action
comes-there w goes action i on home =
    let opened = state_of-is w in
    subst (λ (s : State). is_action_enabled w.input s s.now action ≡ true → home_pool_of_action w.input.config.granularity s action ≡ Some i → ComesInPool w.input s s.now i action) (sym opened)
    (λ enabled there. (pool_is_home w.input goes.checked w.history goes.run i _ action).1 (record { home = there; enabled = enabled }))
    on home

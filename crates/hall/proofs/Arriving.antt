-- The arrival that a seat keeps is one of a processor of the input.
use Rattle.sched_base.specs.Numbers.{processor}
use Rattle.std.proofs.Common.{◌≡◌, ◌<◌, ◌∙◌, ◌&&◌, ℕ, Bool, true, false, List, sym, ap, subst, arith}
use Rattle.std.specs.Prelude.{Option, Some, None}
use Rattle.sched_base.specs.declared.ProcId.{ProcId}
use Rattle.sched_model.specs.declared.action.Action.{Action}
use Rattle.sched_model.specs.declared.action.Action.TheVariants.{Arrive}
use Rattle.sched_model.specs.declared.action.Actor.{Actor}
use Rattle.sched_model.specs.declared.action.Actor.TheVariants.{Proc, Dom, Tool}
use Rattle.sched_model.specs.declared.event.Entry.{Entry}
use Rattle.sched_model.specs.declared.event.Event.{Event}
use Rattle.sched_model.specs.declared.event.Event.TheVariants as event
use Rattle.sched_model.specs.declared.machine.Machine.{Machine}
use Rattle.sched_model.specs.declared.state.Pool.{Pool}
use Rattle.sched_model.specs.declared.state.State.{State}
use Rattle.sched_model.specs.Actions.{candidates, home_pool_of_action}
use Rattle.sched_model.specs.Machine.{is_action_enabled}
use Rattle.sched_model.specs.Places.{test_at}
use Rattle.sched_model.specs.Runs.{event_action}
use Rattle.sched_model.proofs.RunLemmas.{action_of-event_of, find_passes}
use Rattle.sched_base.proofs.Bools.{and_left}
use Rattle.sched_laws.proofs.Lists.{some-test_at}
use Rattle.composition_laws.specs.Actors.{is_by_actor}
use Rattle.pool_laws.specs.Actors.{is_by}
use Rattle.journal_core.specs.Histories.{state_at}
use Rattle.lock_moves.specs.SeatSight.{Seen}
use Rattle.hall.specs.Turns.{HasActed, is_actor}

-- an arrival is by the processor that arrives
in-pool : (m : Machine) (pool : Pool) (actor : Actor) (p : ℕ) → is_by m.config.granularity pool actor (Arrive (processor p)) ≡ true → is_actor m.config actor ≡ true → p < m.config.processors
in-pool m pool (Proc q) p own there = grind (arith, own, there)
in-pool m pool (Dom d) p own there = absurd (cc)
in-pool m pool Tool p own there = absurd (cc)

arrives : (m : Machine) (s : State) (actor : Actor) (p : ℕ) → is_by_actor m s actor (Arrive (processor p)) ≡ true → is_actor m.config actor ≡ true → p < m.config.processors
arrives m s actor p own there = by_home (home_pool_of_action m.config.granularity s (Arrive (processor p))) own
  where
    by_home : (o : Option ℕ) → elim o as (λ _. Bool) [ None ↦ false | Some i ↦ test_at s.pools i (λ pool. is_by m.config.granularity pool actor (Arrive (processor p))) ] ≡ true → p < m.config.processors
    by_home None is = absurd (cc)
    by_home (Some i) is = (let x = some-test_at s.pools i (λ pool. is_by m.config.granularity pool actor (Arrive (processor p))) is in in-pool m x.0 actor p x.2 there)

pub arrival-few : (actor : Actor) (place : ℕ) (e : Event) (before : List Entry) (old new : Seen) → HasActed actor place e before old new → is_actor old.input.config actor ≡ true → (p : ProcId) → e ≡ event.Arrive p → p.0 < old.input.config.processors
arrival-few actor place e before old new acted there p is =
    let m = old.input in
    let s : State = state_at m before in
    let by : is_by_actor m s actor acted.action ≡ true =
    and_left (is_by_actor m s actor acted.action) (is_action_enabled m s s.now acted.action)
    (find_passes (λ a. is_by_actor m s actor a && is_action_enabled m s s.now a) (candidates m.config) acted.action acted.first) in
    let told : (let a : Option Action = Some acted.action in a) ≡ Some (Arrive p) = sym (action_of-event_of m s s.now acted.action) ∙ ap event_action (sym acted.is_event ∙ is) in
    let same : acted.action ≡ Arrive p = cc in
    arrives m s actor p.0 (subst (λ (a : Action). is_by_actor m s actor a ≡ true) same by) there

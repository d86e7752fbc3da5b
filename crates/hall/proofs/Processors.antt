-- The processors that arrive, and the cores of them, are those of the input.
use Rattle.sched_base.specs.Numbers.{processor}
use Rattle.std.proofs.Common.{◌≡◌, ◌∙◌, ◌<◌, ◌/◌, ℕ, Bool, true, false, cond, List, refl, sym, ap, subst, arith}
use Rattle.std.specs.Option.{ForSome}
use Rattle.std.specs.Prelude.{◌==◌, Option, Some, None, is_some, nat_lt}
use Rattle.sched_base.specs.declared.ProcId.{ProcId}
use Rattle.sched_model.specs.declared.action.Action.{Action}
use Rattle.sched_model.specs.declared.action.Action.TheVariants.{Arrive}
use Rattle.sched_model.specs.declared.event.Entry.{Entry}
use Rattle.sched_model.specs.declared.event.Event.{Event}
use Rattle.sched_model.specs.declared.event.Event.TheVariants as event
use Rattle.sched_model.specs.declared.state.Pool.{Pool}
use Rattle.sched_model.specs.Actions.{home_pool_of_core}
use Rattle.sched_model.specs.Machine.{event_of, is_action_enabled}
use Rattle.sched_model.specs.Opening.{machine_core_count}
use Rattle.sched_model.specs.Places.{at_place}
use Rattle.sched_model.specs.Runs.{event_action, IsRun}
use Rattle.sched_model.proofs.RunLemmas.{action_of-event_of}
use Rattle.sched_laws.proofs.EachPlace.{found_at, place_below}
use Rattle.sched_laws.proofs.Granularity.{by_granularity}
use Rattle.sched_laws.proofs.Lists.{some_is}
use Rattle.composition_laws.proofs.Moving.{known_in_runs}
use Rattle.machine_parts.specs.Places.{GoesOn, state_of}
use Rattle.machine_parts.specs.Told.{Told, told_of}
use Rattle.machine_parts.proofs.Going.{range-of, state_of-is}
use Rattle.machine_parts.proofs.AtPlaces.{no-home}
use Rattle.hall.specs.declared.seat.Arrival.{Arrival}
use Rattle.hall.specs.Seats.{kept_arrival}
use Rattle.hall.specs.Turns.{Added}
use Rattle.sched_model.specs.CheckedMachine.{IsChecked}
use Rattle.lock_moves.specs.SeatSight.{Seen}
use Rattle.hall.proofs.Calls.{goes-where}
use Rattle.run_laws.proofs.Grows.{run-beginning}
use Rattle.journal_core.specs.Books.{Chronicle}
use Rattle.journal_core.specs.Histories.{state_at}
use Rattle.sched_model.specs.declared.machine.Machine.{Machine}
use Rattle.sched_model.specs.declared.state.State.{State}
use Rattle.hall.specs.BookTurns.{state_in}

pub is_low : (a b : ℕ) → a < b → nat_lt a b ≡ true
is_low a b low = grind (arith, low)

module _ (w : Told) (goes : GoesOn w) where
  -- a core that a pool has is one of the input, so it is one of 64
  pub core-inside : (i r : ℕ) → home_pool_of_core (state_of w) r ≡ Some i → r < machine_core_count w.input.config
  core-inside i r home =
      let f = found_at i (λ (pool : Pool). is_some (at_place pool.resources r)) (state_of w).pools home in
      let c = some_is (at_place f.0.resources r) f.2 in
      let below = place_below f.0.resources r c.0 c.1 in
      let cores = ((range-of w goes).pools i f.0 f.1).core_places in
      omega (arith, below, cores)

  pub core-small : (r : ℕ) → r < machine_core_count w.input.config → r < 64
  core-small r inside = (let few = (known_in_runs w.input goes.checked w.history goes.run).few_cores in omega (arith, inside, few))

  module _ (p : ℕ) (on : is_action_enabled w.input (state_of w) (state_of w).now (Arrive (processor p)) ≡ true) where
    -- the core of a processor that may arrive is one of the input, and so is the processor
    arrives-inside : p / w.input.config.granularity < machine_core_count w.input.config
    arrives-inside = by_home (home_pool_of_core (state_of w) (p / w.input.config.granularity)) refl
      where
        by_home : (o : Option ℕ) → home_pool_of_core (state_of w) (p / w.input.config.granularity) ≡ o → p / w.input.config.granularity < machine_core_count w.input.config
        by_home None none = (let bad : false ≡ true = no-home w.input (state_of w) (state_of w).now (Arrive (processor p)) none ∙ on in absurd (cc bad))
        by_home (Some i) home = core-inside i (p / w.input.config.granularity) home

    processor-inside : p < w.input.config.processors
    processor-inside = by_granularity (λ (n : ℕ). p / n < w.input.config.processors / n → p < w.input.config.processors) w.input.config.granularity goes.checked.config.granularity (λ l. omega (arith, l)) (λ l. omega (arith, l)) (λ l. omega (arith, l)) arrives-inside

  -- the core of an arrival is one of 64
  pub arrival-small : (action : Action) → is_action_enabled w.input (state_of w) (state_of w).now action ≡ true → (m : Machine) → w.input ≡ m → (p : ℕ) → action ≡ Arrive (processor p) → p / m.config.granularity < 64
  arrival-small action on m same p is =
      let inside = arrives-inside p (subst (λ (a : Action). is_action_enabled w.input (state_of w) (state_of w).now a ≡ true) is on) in
      subst (λ (x : Machine). p / x.config.granularity < 64) same (core-small (p / w.input.config.granularity) inside)

-- the action of an arrival
arrives : (p : ProcId) (action : Action) → event_action (event.Arrive p) ≡ Some action → action ≡ Arrive p
arrives p action is = cc

pub arriving : (w : Told) → GoesOn w → (action : Action) → is_action_enabled w.input (state_of w) (state_of w).now action ≡ true → (e : Event) → e ≡ event_of w.input (state_of w) (state_of w).now action → (p : ProcId) → e ≡ event.Arrive p → p.0 < w.input.config.processors
arriving w goes action on e is p arrival =
    let of : event_action e ≡ Some action = ap event_action is ∙ action_of-event_of w.input (state_of w) (state_of w).now action in
    let same : action ≡ Arrive p = arrives p action (sym (ap event_action arrival) ∙ of) in
    processor-inside w goes p.0 (subst (λ (a : Action). is_action_enabled w.input (state_of w) (state_of w).now a ≡ true) same on)

-- what is kept after an event
module _ (n g : ℕ) (before : List Entry) where
  abbrev AllInside : Option Arrival → Type 0
  AllInside o = ForSome o (λ (a : Arrival). a.p.0 < n)

  left : (b : Bool) (a : Arrival) → AllInside (Some a) → AllInside (cond b None (Some a))
  left true a inside = λ x is. absurd (cc)
  left false a inside = inside

  pub kept-inside : (e : Event) (kept : Option Arrival) → ((p : ProcId) → e ≡ event.Arrive p → p.0 < n) → AllInside kept → AllInside (kept_arrival g before e kept)
  kept-inside (event.Arrive p) kept new inside = λ a is. (let same : p ≡ a.p = cc in subst (λ (q : ProcId). q.0 < n) same (new p refl))
  kept-inside (event.Leave p v) None new inside = inside
  kept-inside (event.Leave p v) (Some a) new inside = left (a.p.0 == p.0) a inside
  kept-inside e kept new inside = inside

-- so the arrival that is kept after an event that was added is one of a processor of the input
pub arrived-inside : (old new : Seen) (place : ℕ) (e : Event) (before : List Entry) → IsChecked old.input → Added place e before old new → (action : Action) → is_action_enabled old.input (state_at old.input before) (state_at old.input before).now action ≡ true
    → e ≡ event_of old.input (state_at old.input before) (state_at old.input before).now action → new.input ≡ old.input → (kept result : Option Arrival) → result ≡ kept_arrival old.input.config.granularity before e kept
    → ForSome kept (λ (a : Arrival). a.p.0 < old.input.config.processors) → ForSome result (λ (a : Arrival). a.p.0 < new.input.config.processors)
arrived-inside old new place e before checked added action on is input kept result same inside =
    let b : Chronicle = record { input = old.input; history = before; limit = 0 } in
    let there : state_at old.input before ≡ state_in b = sym (state_of-is (told_of b)) in
    let run : IsRun old.input before = run-beginning old.input before _ (subst (IsRun old.input) added.front added.run) in
    let may : is_action_enabled old.input (state_in b) (state_in b).now action ≡ true = subst (λ (s : State). is_action_enabled old.input s s.now action ≡ true) there on in
    let arrives = arriving (told_of b) (goes-where b checked run action may) action may e (subst (λ (s : State). e ≡ event_of old.input s s.now action) there is) in
    subst (λ (p : Machine × Option Arrival). ForSome p.1 (λ (a : Arrival). a.p.0 < p.0.config.processors)) (λ i. (sym input i, sym same i))
    (kept-inside old.input.config.processors old.input.config.granularity before e kept arrives inside)

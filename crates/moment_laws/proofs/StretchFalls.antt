-- Each entry of a stretch lowers what is left to the machine, if decisions of stretches are good ones; so a stretch has as many entries at most.
use Rattle.sched_base.specs.Numbers.{core}
use Rattle.std.proofs.Common.{◌≡◌, ◌≤◌, ◌<◌, ◌+◌, ◌/◌, ℕ, Bool, true, false, not, List, [], ◌∷◌, ◌++◌, refl, arith, ap, subst, sym, ◌∙◌, length}
use Rattle.std.specs.Prelude.{Option, Some, None, is_some, is_none, ◌&&◌, replicate}
use Rattle.std.specs.List.{list_any, list_all}
use Rattle.sched_model.specs.declared.event.Event.{Event}
use Rattle.sched_model.specs.declared.event.Event.TheVariants as event
use Rattle.sched_model.specs.declared.event.Entry.{Entry}
use Rattle.sched_model.specs.declared.machine.Machine.{Machine}
use Rattle.sched_model.specs.declared.state.State.{State}
use Rattle.sched_model.specs.declared.state.Pool.{Pool}
use Rattle.sched_model.specs.declared.state.Resource.{Resource}
use Rattle.sched_model.specs.declared.action.Action.{Action}
use Rattle.sched_model.specs.declared.action.Action.TheVariants.{Arrive, Decide, Leave, Save}
use Rattle.sched_model.specs.Places.{at_place, test_at}
use Rattle.sched_model.specs.Pool as pools
use Rattle.sched_model.specs.Pool.{enabled_in, after_in, settled_pool, is_held_back, is_gathering, is_first_processor_up}
use Rattle.sched_model.specs.Actions.{home_pool_of_action, home_pool_of_core, change_pool}
use Rattle.sched_model.specs.Machine.{enabled_at_home, after_at_home}
use Rattle.sched_model.specs.Runs.{Reached, IsRun, IsNextEvent, event_action, run_start, after_event, after_entries}
use Rattle.sched_model.specs.CheckedMachine.{IsChecked}
use Rattle.sched_model.proofs.RunLemmas.{after_entries-append}
use Rattle.sched_laws.specs.StateLaws.{state_after}
use Rattle.sched_base.proofs.Bools.{and_left, and_right}
use Rattle.sched_laws.proofs.EachPlace.{place_below}
use Rattle.sched_laws.proofs.Lists.{some-test_at}
use Rattle.sched_laws.proofs.Reached.{core_is_sound, core_is_whole, places_for_cores}
use Rattle.sched_laws.proofs.SiblingsLaw.{some_processor}
use Rattle.sched_laws.proofs.Sound.{some_if_all}
use Rattle.sched_laws.proofs.StillWaits.{split_run}
use Rattle.moment_laws.specs.Stretches.{Legs, cores, open_legs, legs_after, legs_with, is_in_stretch, is_stretch}
use Rattle.moment_laws.specs.Turns.{turns_left}
use Rattle.moment_laws.specs.GoodDecisions.{DecidesWellNext}
use Rattle.moment_laws.proofs.Changed.{Falls}
use Rattle.moment_laws.proofs.Meetings.{arrive_falls, leave_falls, save_falls}
use Rattle.moment_laws.proofs.Decisions.{decide_falls}
use Rattle.moment_laws.proofs.CoreEvents.{state_falls}

pub legs_push : (legs : Legs) (entries : List Entry) (e : Entry) → legs_after legs (entries ++ e ∷ []) ≡ legs_with e.at.0 e.event (legs_after legs entries)
legs_push legs [] e = refl
legs_push legs (x ∷ entries) e = legs_push (legs_with x.at.0 x.event legs) entries e

pub push_assoc : (xs : List Entry) (e : Entry) (ys : List Entry) → (xs ++ e ∷ []) ++ ys ≡ xs ++ e ∷ ys
push_assoc [] e ys = refl
push_assoc (x ∷ xs) e ys = ap (λ zs. x ∷ zs) (push_assoc xs e ys)

module _ (m : Machine) (checked : IsChecked m) (well : DecidesWellNext m) where
  module _ (before : List Entry) (e : Entry) (run : IsRun m (before ++ e ∷ [])) (goes_on : is_in_stretch e.at.0 (open_legs m before) e.event ≡ true) where
    abbrev s : State
    s = state_after m before

    abbrev g : ℕ
    g = m.config.granularity

    run_before : IsRun m before
    run_before = (split_run m (run_start m) before (e ∷ []) run).0

    -- an event of the core r
    act_falls : (action : Action) (r : ℕ) → home_pool_of_action g s action ≡ home_pool_of_core s r → enabled_at_home m s s.now action ≡ true
        → ((i : ℕ) (pool : Pool) → at_place s.pools i ≡ Some pool → enabled_in g s.now pool action ≡ true → (c : Resource) × (at_place pool.resources r ≡ Some c) × Falls m s.now pool (after_in g s.now pool action) r)
        → turns_left m (after_at_home g s s.now action) + 1 ≤ turns_left m s
    act_falls action r home on falls_in = by_home (home_pool_of_core s r) refl
      where
        by_home : (o : Option ℕ) → home_pool_of_core s r ≡ o → turns_left m (after_at_home g s s.now action) + 1 ≤ turns_left m s
        by_home None is = absurd (let a : enabled_at_home m s s.now action ≡ false = ap (λ (o : Option ℕ). elim o as (λ _. Bool) [ None ↦ false | Some i ↦ test_at s.pools i (λ pool. enabled_in g s.now pool action) ]) (home ∙ is) in cc)
        by_home (Some i) is =
            let a : enabled_at_home m s s.now action ≡ test_at s.pools i (λ pool. enabled_in g s.now pool action) = ap (λ (o : Option ℕ). elim o as (λ _. Bool) [ None ↦ false | Some j ↦ test_at s.pools j (λ pool. enabled_in g s.now pool action) ]) (home ∙ is) in
            let there = some-test_at s.pools i (λ pool. enabled_in g s.now pool action) (sym a ∙ on) in
            let f = falls_in i there.0 there.1 there.2 in
            let low = place_below there.0.resources r f.0 f.1 in
            let count = places_for_cores m checked before run_before i there.0 there.1 in
            let b : after_at_home g s s.now action ≡ change_pool i (λ pool. settled_pool s.now (after_in g s.now pool action)) s = ap (λ (o : Option ℕ). elim o as (λ _. State) [ None ↦ s | Some j ↦ change_pool j (λ pool. settled_pool s.now (after_in g s.now pool action)) s ]) (home ∙ is) in
            subst (λ (x : State). turns_left m x + 1 ≤ turns_left m s) (sym b)
            (state_falls m s i r there.0 (after_in g s.now there.0 action) (omega (arith, low, count)) is there.1 f.2 (λ pool. settled_pool s.now (after_in g s.now pool action)) refl)

    whole : (i : ℕ) (pool : Pool) → at_place s.pools i ≡ Some pool → (r : ℕ) (c : Resource) → at_place pool.resources r ≡ Some c → length c.processors ≡ g
    whole i pool at r c has = core_is_whole m checked before run_before i pool at r c has

    some : 0 < g
    some = some_processor m.config.granularity checked.config.granularity

    decide_in : (r i : ℕ) (pool : Pool) → event_action e.event ≡ Some (Decide (core r)) → at_place s.pools i ≡ Some pool → enabled_in g s.now pool (Decide (core r)) ≡ true → (c : Resource) × (at_place pool.resources r ≡ Some c) × Falls m s.now pool (after_in g s.now pool (Decide (core r))) r
    decide_in r i pool is at on =
        let there = some-test_at pool.resources r (λ (x : Resource). list_all is_held_back x.processors && is_gathering x && is_first_processor_up s.now x) on in
        let c : Resource = there.0 in
        let two : (list_all is_held_back c.processors && is_gathering c) ≡ true = and_left (list_all is_held_back c.processors && is_gathering c) (is_first_processor_up s.now c) there.2 in
        let all = and_left (list_all is_held_back c.processors) (is_gathering c) two in
        let gathers = and_right (list_all is_held_back c.processors) (is_gathering c) two in
        let any = some_if_all s.now c.processors (and_right (list_all is_held_back c.processors && is_gathering c) (is_first_processor_up s.now c) there.2) all in
        let pending = ((core_is_sound m checked before run_before i pool at r c there.1).gathers gathers any).0 in (
          c,
          there.1,
          subst (λ (o : Option Resource). Falls m s.now pool (elim o as (λ _. Pool) [ None ↦ pool | Some x ↦ pools.after_decide g s.now r x pool ]) r) (sym there.1)
              (decide_falls m s.now pool r c pending gathers all (whole i pool at r c there.1) there.1 (well before e run goes_on i r pool c is at there.1)),
        )

    by_event : (ev : Event) → e.event ≡ ev → is_in_stretch e.at.0 (open_legs m before) ev ≡ true → IsNextEvent m s ev (event_action ev) → turns_left m (after_event m ev (event_action ev) (after_entries m (run_start m) before)).state + 1 ≤ turns_left m s
    by_event (event.Arrive p) is on next =
        act_falls (Arrive p) (p.0 / g) refl next.0
        (λ i pool at may. (
        let there = some-test_at pool.resources (p.0 / g) (λ (c : Resource). c.pending && is_gathering c && is_none c.saving) (and_left (test_at pool.resources (p.0 / g) (λ (c : Resource). c.pending && is_gathering c && is_none c.saving)) _ may) in
        (there.0, there.1, arrive_falls m some s.now pool (whole i pool at) p.0 may)))
    by_event (event.Decide r unit due late reset) is on next = act_falls (Decide r) r.0 refl next.0 (λ i pool at may. decide_in r.0 i pool (ap event_action is) at may)
    by_event (event.Leave p v) is on next =
        act_falls (Leave p) (p.0 / g) refl next.0
        (λ i pool at may. (
        let there = some-test_at pool.resources (p.0 / g) (λ (c : Resource). not (is_gathering c)) (and_left (test_at pool.resources (p.0 / g) (λ (c : Resource). not (is_gathering c))) _ may) in
        (there.0, there.1, leave_falls m some s.now pool (whole i pool at) p.0 may)))
    by_event (event.Save r u queued) is on next =
        act_falls (Save r) r.0 refl next.0
        (λ i pool at may. (
        let there = some-test_at pool.resources r.0 (λ (x : Resource). is_some x.saving && not (list_any is_held_back x.processors) && is_first_processor_up s.now x) may in
        (there.0, there.1, save_falls m some s.now pool (whole i pool at) r.0 may)))
    by_event other is on next = absurd (cc)

    pub entry_falls : turns_left m (state_after m (before ++ e ∷ [])) + 1 ≤ turns_left m s
    entry_falls =
        let parts = split_run m (run_start m) before (e ∷ []) run in
        subst (λ (x : Reached). turns_left m x.state + 1 ≤ turns_left m s) (sym (after_entries-append m (run_start m) before e)) (by_event e.event refl goes_on parts.1.0.event)

  pub stretch_falls : (stretch before : List Entry) → IsRun m (before ++ stretch) → is_stretch (open_legs m before) stretch ≡ true → length stretch ≤ turns_left m (state_after m before)
  stretch_falls [] before run is = omega arith
  stretch_falls (e ∷ stretch) before run is =
      let run2 : IsRun m ((before ++ e ∷ []) ++ stretch) = subst (IsRun m) (sym (push_assoc before e stretch)) run in
      let goes_on = and_left (is_in_stretch e.at.0 (open_legs m before) e.event) _ is in
      let rest : is_stretch (open_legs m (before ++ e ∷ [])) stretch ≡ true = subst (λ l. is_stretch l stretch ≡ true) (sym (legs_push (replicate (cores m) None) before e)) (and_right (is_in_stretch e.at.0 (open_legs m before) e.event) _ is) in
      let one = entry_falls before e (split_run m (run_start m) (before ++ e ∷ []) stretch run2).0 goes_on in
      let more = stretch_falls stretch (before ++ e ∷ []) run2 rest in
      grind (arith, one, more)

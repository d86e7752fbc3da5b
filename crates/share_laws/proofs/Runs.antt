-- The accounts of two units through a run.
use Rattle.std.proofs.Common.{◌≡◌, ◌<◌, ◌≤◌, ◌+◌, ◌-◌, ◌*◌, ℕ, Bool, true, false, List, [], ◌∷◌, ◌++◌, refl, arith, subst, sym, ap, ◌∙◌, inl, inr}
use Rattle.std.specs.Prelude.{Option, Some, None, option_map, slice_set, nat_le, ◌&&◌}
use Rattle.std.specs.List.{list_all, AllByRecursion}
use Rattle.std.specs.Option.{IfSome}
use Rattle.std.proofs.Math.Decide.{ℕ_discrete}
use Rattle.std.proofs.lemmas.Bool.{cases_Bool, and_from}
use Rattle.sched_base.specs.Numbers.{core as core_number}
use Rattle.sched_base.specs.declared.Moment.{Moment}
use Rattle.sched_base.specs.declared.ResId.{ResId}
use Rattle.sched_base.specs.declared.UnitId.{UnitId}
use Rattle.sched_base.proofs.Bools.{and_left, and_right}
use Rattle.sched_model.specs.declared.action.Action.{Action}
use Rattle.sched_model.specs.declared.action.Action.TheVariants.{Decide, Refill}
use Rattle.sched_model.specs.declared.event.Entry.{Entry}
use Rattle.sched_model.specs.declared.event.Event.{Event}
use Rattle.sched_model.specs.declared.machine.Machine.{Machine}
use Rattle.sched_model.specs.declared.state.Credit2Records.{Credit2Records}
use Rattle.sched_model.specs.declared.state.Pool.{Pool}
use Rattle.sched_model.specs.declared.state.Processor.{Processor}
use Rattle.sched_model.specs.declared.state.Records.TheVariants.{Credit2Pool}
use Rattle.sched_model.specs.declared.state.Resource.{Resource}
use Rattle.sched_model.specs.declared.state.State.{State}
use Rattle.sched_model.specs.Actions.{home_pool_of_action, change_pool}
use Rattle.sched_model.specs.CheckedMachine.{IsChecked}
use Rattle.sched_model.specs.Machine.{is_action_enabled, after}
use Rattle.sched_model.specs.Places.{at_place, has_listed_unit, test_at}
use Rattle.sched_model.specs.Pool.{after_decide, after_in, core_ask, enabled_in, is_held_back, is_gathering, is_first_processor_up, settled_pool}
use Rattle.sched_model.specs.Runs.{Reached, IsNext, IsNextEvent, IsRun, IsRunFrom, after_entries, after_entry, after_event, after_quiet, event_action, named_next_moment, run_start}
use Rattle.sched_model.specs.State.{is_not_stalled, may_unit_run}
use Rattle.sched_model.proofs.RunLemmas.{IsRunFrom-append}
use Rattle.sched_laws.specs.Counts.{one_at, times}
use Rattle.sched_laws.specs.PoolFacts.{CoreIsSound, OnePlace, core_places, places}
use Rattle.sched_laws.specs.StateLaws.{state_after}
use Rattle.sched_laws.proofs.Counts.{times_none, total_some}
use Rattle.sched_laws.proofs.Kept.{passes_at}
use Rattle.sched_laws.proofs.Lists.{some-test_at}
use Rattle.sched_laws.proofs.OnePlace.{one_at_some}
use Rattle.sched_laws.proofs.Reached.{one_place, core_is_sound}
use Rattle.sched_laws.proofs.Sound.{some_if_all}
use Rattle.moment_laws.proofs.AllowedAlone.{allowed_alone}
use Rattle.term_laws.proofs.ReachedStates.{IsReached, reached_next}
use Rattle.service_laws.specs.OnTime.{CoresAreOnTime, IsOnTime}
use Rattle.service_laws.specs.Passing.{IsBeforeNext, Passes, at_moment}
use Rattle.service_laws.specs.Service.{has_unit, time_of, time_until}
use Rattle.service_laws.proofs.EndsSums.{next_rises}
use Rattle.service_laws.proofs.Passing.{NextMomentLaw}
use Rattle.undisturbed_laws.specs.Undisturbed.{IsAsConfigured, NeverSleeps, PoolStays}
use Rattle.undisturbed_laws.proofs.Runs.{after_pool, configured_in_runs, enabled_pool, only_pools, pool_as_configured}
use Rattle.undisturbed_laws.proofs.Units.{never_sleeps, only_core}
use Rattle.service_laws.proofs.SpanSums.{named_none}
use Rattle.share_laws.specs.Shares.{IsPlainCredit2, HasWeight, longest_slice}
use Rattle.share_laws.proofs.Decision.{MayBeChosen, is_kept}
use Rattle.share_laws.proofs.Fair.{Fair, fair_decided, fair_elsewhere, fair_event, fair_later, no_refill}

-- what `law_on_time` says of a machine
abbrev pub OnTimeLaw : Machine → Type 0
OnTimeLaw m = (before : List Entry) (last : Entry) → IsRun m (before ++ last ∷ []) → (t : ℕ) → Passes m (state_after m before) last.event t → CoresAreOnTime (at_moment t (state_after m before))

-- what holds of every state that a run leads to, holds of one that is reached
pub of_reached : (m : Machine) (P : State → Type 0) → ((entries : List Entry) → IsRun m entries → P (state_after m entries)) → (s : State) → IsReached m s → P s
of_reached m P each s reached = subst P (ap (λ (x : Reached). x.state) reached.leads) (each reached.before reached.run)

-- no processor of an unstalled core is stalled
pub unstalled_up : (t : ℕ) (ps : List Processor) → AllByRecursion (λ (p : Processor). p.stall_end.0 ≡ 0) ps → list_all (is_not_stalled t) ps ≡ true
unstalled_up t [] each = refl
unstalled_up t (p ∷ ps) each = and_from (is_not_stalled t p) (list_all (is_not_stalled t) ps) (up p.stall_end.0 t each.0) (unstalled_up t ps each.1)
  where
    up : (n t : ℕ) → n ≡ 0 → nat_le n t ≡ true
    up n t is = grind (arith, is)

module _ (m : Machine) (checked : IsChecked m) (i r rate : ℕ) (plain : IsPlainCredit2 m i r rate) where
  pub configured : (s : State) → IsReached m s → IsAsConfigured m s
  configured s reached = of_reached m (IsAsConfigured m) (configured_in_runs m checked plain.calm) s reached

  pub pool_stays : (s : State) → IsReached m s → (pool : Pool) → at_place s.pools i ≡ Some pool → PoolStays m i plain.config pool
  pool_stays s reached pool at = pool_as_configured m s (configured s reached) i pool at plain.config plain.there

  pub single : (s : State) → IsReached m s → (pool : Pool) → at_place s.pools i ≡ Some pool → (q : ℕ) (c : Resource) → at_place pool.resources q ≡ Some c → q ≡ r
  single s reached pool at = only_core m i r plain.config pool (pool_stays s reached pool at) plain.core

  pub one : (s : State) → IsReached m s → (pool : Pool) → at_place s.pools i ≡ Some pool → OnePlace m.config.granularity pool
  one s reached pool at = of_reached m (λ (x : State). (p : Pool) → at_place x.pools i ≡ Some p → OnePlace m.config.granularity p) (λ entries run p at_p. one_place m checked entries run i p at_p) s reached pool at

  pub sound : (s : State) → IsReached m s → (pool : Pool) → at_place s.pools i ≡ Some pool → (c : Resource) → at_place pool.resources r ≡ Some c → CoreIsSound m.config.granularity c
  sound s reached pool at c has =
      of_reached m (λ (x : State). (p : Pool) → at_place x.pools i ≡ Some p → (d : Resource) → at_place p.resources r ≡ Some d → CoreIsSound m.config.granularity d) (λ entries run p at_p d at_d. core_is_sound m checked entries run i p at_p r d at_d) s reached pool at c has

  -- at a decision the core saves nothing
  pub saves_none : (s : State) → IsReached m s → (pool : Pool) → at_place s.pools i ≡ Some pool → (c : Resource) → at_place pool.resources r ≡ Some c → enabled_in m.config.granularity s.now pool (Decide (core_number r)) ≡ true → c.saving ≡ None
  saves_none s reached pool at c has on =
      let may = passes_at pool.resources r (λ (x : Resource). list_all is_held_back x.processors && is_gathering x && is_first_processor_up s.now x) c has on in
      let two = and_left (list_all is_held_back c.processors && is_gathering c) (is_first_processor_up s.now c) may in
      let all : list_all is_held_back c.processors ≡ true = and_left (list_all is_held_back c.processors) (is_gathering c) two in
      let open_c : is_gathering c ≡ true = and_right (list_all is_held_back c.processors) (is_gathering c) two in
      let any = some_if_all s.now c.processors (and_right (list_all is_held_back c.processors && is_gathering c) (is_first_processor_up s.now c) may) all in
      ((sound s reached pool at c has).gathers open_c any).1

  -- a unit that is runnable may be chosen
  pub may_be_chosen : (s : State) → IsReached m s → (pool : Pool) → at_place s.pools i ≡ Some pool → (c : Resource) → at_place pool.resources r ≡ Some c → enabled_in m.config.granularity s.now pool (Decide (core_number r)) ≡ true
      → (books : Credit2Records) (v : UnitId) → may_unit_run m.config.granularity pool v ≡ true → MayBeChosen (core_ask m.config.granularity s.now pool r c) pool.scheduler books v
  may_be_chosen s reached pool at c has on books v runs = record {
    allowed = allowed_alone pool.scheduler pool.resources r c has (single s reached pool at) v;
    place = elim (cases_Bool (has_listed_unit pool.scheduler.queue v)) [
      | inl queued ↦ inr queued
      | inr not_queued ↦ (
          let placed : 1 ≤ places pool v = elim ((one s reached pool at).runs v runs) as (λ _. 1 ≤ places pool v) [ inl has_one ↦ has_one | inr nobody ↦ absurd nobody ] in
          let none : times v pool.scheduler.queue ≡ 0 = times_none v pool.scheduler.queue not_queued in
          let core = total_some (core_places v) pool.resources (omega (arith, placed, none)) in
          let where_r : core.0 ≡ r = single s reached pool at core.0 core.1 core.2 in
          let at_r : at_place pool.resources r ≡ Some core.1 = subst (λ k. at_place pool.resources k ≡ Some core.1) where_r core.2 in
          let same : core.1 ≡ c = cc in
          let has_v : 1 ≤ core_places v c = subst (λ (x : Resource). 1 ≤ core_places v x) same core.3 in
          let nothing : one_at v c.saving ≡ 0 = ap (one_at v) (saves_none s reached pool at c has on) in
          let cur : c.cur ≡ Some v = one_at_some v c.cur (only_cur (one_at v c.cur) (one_at v c.saving) has_v nothing) in
          inl (cur, ap (λ (o : Option UnitId). elim o as (λ _. Bool) [ None ↦ false | Some w ↦ may_unit_run m.config.granularity pool w ]) cur ∙ runs))
    ];
  }
    where
      only_cur : (a b : ℕ) → 1 ≤ a + b → b ≡ 0 → 1 ≤ a
      only_cur a b some none = omega (arith, some, none)

  -- no choice is kept by the rate limit, in a state, and in each before one of these entries
  abbrev pub KeepsNobody : State → Type 0
  KeepsNobody s =
      (pool : Pool) → at_place s.pools i ≡ Some pool → (c : Resource) → at_place pool.resources r ≡ Some c → enabled_in m.config.granularity s.now pool (Decide (core_number r)) ≡ true
      → (books : Credit2Records) → pool.scheduler.records ≡ Credit2Pool books → is_kept (core_ask m.config.granularity s.now pool r c) pool.scheduler books ≡ false

  abbrev pub KeptAlong : Reached → List Entry → Type 0
  KeptAlong from [] = Unit {0}
  KeptAlong from (entry ∷ entries) = KeepsNobody from.state × KeptAlong (after_entry m from entry) entries

  pub kept_each : ((s : State) → IsReached m s → KeepsNobody s) → (from : Reached) (entries : List Entry) → IsRunFrom m from entries → IsReached m from.state → KeptAlong from entries
  kept_each each from [] run reached = tt
  kept_each each from (entry ∷ entries) run reached = (each from.state reached, kept_each each (after_entry m from entry) entries run.1 (reached_next m from entry run.0 reached))

  pub kept_first : (from : Reached) (before entries : List Entry) → KeptAlong from (before ++ entries) → KeptAlong from before
  kept_first from [] entries kept = tt
  kept_first from (entry ∷ before) entries kept = (kept.0, kept_first (after_entry m from entry) before entries kept.1)

  module _ (law : NextMomentLaw m) (on_time : OnTimeLaw m) where
    -- the entry comes after a run, and so at each nanosecond that passes with it the core is on time
    pub core_on_time : (from : Reached) (entry : Entry) → IsNext m from entry → IsReached m from.state → (t : ℕ) → Passes m from.state entry.event t → (pool : Pool) → at_place from.state.pools i ≡ Some pool → (c : Resource) → at_place pool.resources r ≡ Some c → IsOnTime t c
    core_on_time from entry next reached t passes pool at c has =
        let s : State = from.state in
        let here : after_entries m (run_start m) reached.before ≡ from = reached.leads ∙ sym (ap (λ (b : Bool). record { state = from.state; over = b }) next.goes_on) in
        let run : IsRun m (reached.before ++ entry ∷ []) = IsRunFrom-append m (run_start m) reached.before entry reached.run (subst (λ (f : Reached). IsNext m f entry) (sym here) next) in
        let state_is : state_after m reached.before ≡ s = ap (λ (x : Reached). x.state) here in
        let all : CoresAreOnTime (at_moment t s) = subst (λ (x : State). CoresAreOnTime (at_moment t x)) state_is (on_time reached.before entry run t (subst (λ (x : State). Passes m x entry.event t) (sym state_is) passes)) in
        all i pool at r c has (unstalled_up t c.processors ((pool_stays s reached pool at).cores_stay r c has).unstalled)

    -- the last nanosecond before the next moment passes
    pub passes_before : (s : State) (e : Event) (next : ℕ) → event_action e ≡ None → named_next_moment e ≡ Some next → s.now < next → Passes m s e (next - 1)
    passes_before s e next quiet is later = record { quiet = quiet; from = low s.now next later; until = subst (λ (o : Option ℕ). IsBeforeNext m.config.horizon.0 o (next - 1)) (sym is) (below s.now next later) }
      where
        low : (a b : ℕ) → a < b → a ≤ b - 1
        low a b less = omega (arith, less)

        below : (a b : ℕ) → a < b → b - 1 < b
        below a b less = omega (arith, less)

    module _ (most : ℕ) (u v : UnitId) (wu wv : ℕ) (some_u : 0 < wu) (some_v : 0 < wv) (never : NeverSleeps m v) (domain_v : HasWeight m i v wv) where
      abbrev F : ℕ → ℕ → State → Type 0
      F = Fair i r rate most u v wu wv

      module _ (nu nv : ℕ) (s : State) (reached : IsReached m s) (kept : KeepsNobody s) (here : F nu nv s) where
        decided : enabled_in m.config.granularity s.now here.pool (Decide (core_number r)) ≡ true → F nu nv (change_pool i (λ pool. settled_pool s.now (after_in m.config.granularity s.now pool (Decide (core_number r)))) s)
        decided on =
            let g : ℕ = m.config.granularity in
            let f : Pool → Pool = λ pool. settled_pool s.now (after_in g s.now pool (Decide (core_number r))) in
            let h : Pool → Pool = λ pool. settled_pool s.now (after_decide g s.now r here.core here.pool) in
            let same : f here.pool ≡ h here.pool = ap (λ (o : Option Resource). settled_pool s.now (elim o as (λ _. Pool) [ None ↦ here.pool | Some c ↦ after_decide g s.now r c here.pool ])) here.has in
            let place : option_map f (at_place s.pools i) ≡ option_map h (at_place s.pools i) = ap (option_map f) here.at ∙ ap (λ (p : Pool). Some p) same ∙ sym (ap (option_map h) here.at) in
            let stays = pool_stays s reached here.pool here.at in
            let runs : may_unit_run g here.pool v ≡ true = never_sleeps m checked i plain.config here.pool stays v never domain_v.domain domain_v.home in
            subst (λ (o : Option Pool). F nu nv (record s { pools = slice_set s.pools i o })) (sym place)
            (fair_decided i r rate most u v wu wv some_u some_v nu nv g s here (stays.cores_stay r here.core here.has).stays (kept here.pool here.at here.core here.has on here.books here.is)
            (may_be_chosen s reached here.pool here.at here.core here.has on here.books v runs))

        own : (action : Action) → enabled_in m.config.granularity s.now here.pool action ≡ true → F nu nv (change_pool i (λ pool. settled_pool s.now (after_in m.config.granularity s.now pool action)) s)
        own (Decide q) on =
            let core = some-test_at here.pool.resources q.0 (λ (x : Resource). list_all is_held_back x.processors && is_gathering x && is_first_processor_up s.now x) on in
            let e : q.0 ≡ r = single s reached here.pool here.at q.0 core.0 core.1 in
            let is : q ≡ core_number r = ap core_number e in
            subst (λ (k : ResId). F nu nv (change_pool i (λ pool. settled_pool s.now (after_in m.config.granularity s.now pool (Decide k))) s)) (sym is)
            (decided (subst (λ (k : ResId). enabled_in m.config.granularity s.now here.pool (Decide k) ≡ true) is on))
        own (Refill d) on = absurd (no_refill i r rate most u v wu wv nu nv m.config.granularity s d.0 here on)
        own action on = fair_event i r rate most u v wu wv nu nv m.config.granularity s action here tt

        at_home : (action : Action) (home : Option ℕ) → elim home as (λ _. Bool) [ None ↦ false | Some j ↦ test_at s.pools j (λ pool. enabled_in m.config.granularity s.now pool action) ] ≡ true
            → F nu nv (elim home as (λ _. State) [ None ↦ s | Some j ↦ change_pool j (λ pool. settled_pool s.now (after_in m.config.granularity s.now pool action)) s ])
        at_home action None on = absurd (cc)
        at_home action (Some j) on =
            elim (ℕ_discrete i j) [
              | yes e ↦ subst (λ k. F nu nv (change_pool k (λ pool. settled_pool s.now (after_in m.config.granularity s.now pool action)) s)) e
                  (own action (passes_at s.pools i (λ p. enabled_in m.config.granularity s.now p action) here.pool here.at (subst (λ k. test_at s.pools k (λ pool. enabled_in m.config.granularity s.now pool action) ≡ true) (sym e) on)))
              | no ne ↦ fair_elsewhere i r rate most u v wu wv nu nv s j (λ pool. settled_pool s.now (after_in m.config.granularity s.now pool action)) ne here
            ]

        acted : (action : Action) → is_action_enabled m s s.now action ≡ true → F nu nv (after m s s.now action)
        acted action on =
            let of = only_pools m plain.calm s s.now (configured s reached) action on in
            subst (F nu nv) (sym (after_pool m s s.now action of)) (at_home action (home_pool_of_action m.config.granularity s action) (sym (enabled_pool m s s.now action of) ∙ on))

      none_more : (nu nv : ℕ) (s : State) → F nu nv s → F (nu + 0) (nv + 0) s
      none_more nu nv s here = subst (λ a. F a (nv + 0) s) (plus nu) (subst (λ b. F nu b s) (plus nv) here)
        where
          plus : (n : ℕ) → n ≡ n + 0
          plus n = omega arith

      step : (nu nv : ℕ) (from : Reached) (entry : Entry) → IsNext m from entry → IsReached m from.state → KeepsNobody from.state → F nu nv from.state
          → F (nu + time_until (has_unit i r u) from.state (named_next_moment entry.event)) (nv + time_until (has_unit i r v) from.state (named_next_moment entry.event)) (after_entry m from entry).state
      step nu nv from entry next reached kept here = by_action (event_action entry.event) refl next.event
        where
          by_end : (end : Option ℕ) → named_next_moment entry.event ≡ end → event_action entry.event ≡ None → IsNextEvent m from.state entry.event None → F (nu + time_until (has_unit i r u) from.state end) (nv + time_until (has_unit i r v) from.state end) (after_quiet end from).state
          by_end None is quiet ev = none_more nu nv from.state here
          by_end (Some later) is quiet ev =
              let rise : from.state.now < later = (next_rises m law from.state ev.0 later (ev.1 ∙ is)).0 in
              let punctual : IsOnTime (later - 1) here.core = core_on_time from entry next reached (later - 1) (passes_before from.state entry.event later quiet is rise) here.pool here.at here.core here.has in
              fair_later i r rate most u v wu wv nu nv from.state here later (omega (arith, rise)) (λ due has. after_it (subst (λ (o : Option Moment). IfSome o (λ (x : Moment). later - 1 < x.0)) has punctual.due))
            where
              after_it : {due : ℕ} → later - 1 < due → later ≤ due
              after_it less = omega (arith, less)

          by_action : (o : Option Action) → event_action entry.event ≡ o → IsNextEvent m from.state entry.event o
              → F (nu + time_until (has_unit i r u) from.state (named_next_moment entry.event)) (nv + time_until (has_unit i r v) from.state (named_next_moment entry.event)) (after_event m entry.event o from).state
          by_action None is ev = by_end (named_next_moment entry.event) refl is ev
          by_action (Some action) is ev =
              subst (λ (end : Option ℕ). F (nu + time_until (has_unit i r u) from.state end) (nv + time_until (has_unit i r v) from.state end) (after m from.state from.state.now action)) (sym (named_none entry.event action is))
              (none_more nu nv (after m from.state from.state.now action) (acted nu nv from.state reached kept here action ev.0))

      -- the whole run
      pub shared : (nu nv : ℕ) (from : Reached) (entries : List Entry) → IsRunFrom m from entries → IsReached m from.state → KeptAlong from entries → F nu nv from.state
          → (nu + time_of m (has_unit i r u) from entries) * wv ≤ (nv + time_of m (has_unit i r v) from entries) * wu + (longest_slice rate + 1) * wv
      shared nu nv from [] run reached kept here = (none_more nu nv from.state here).bound
      shared nu nv from (entry ∷ entries) run reached kept here =
          let xu : ℕ = time_until (has_unit i r u) from.state (named_next_moment entry.event) in
          let xv : ℕ = time_until (has_unit i r v) from.state (named_next_moment entry.event) in
          let rest = shared (nu + xu) (nv + xv) (after_entry m from entry) entries run.1 (reached_next m from entry run.0 reached) kept.1 (step nu nv from entry run.0 reached kept.0 here) in
          subst (λ a. a * wv ≤ (nv + (xv + time_of m (has_unit i r v) (after_entry m from entry) entries)) * wu + (longest_slice rate + 1) * wv) (sum nu xu (time_of m (has_unit i r u) (after_entry m from entry) entries))
          (subst (λ b. (nu + xu + time_of m (has_unit i r u) (after_entry m from entry) entries) * wv ≤ b * wu + (longest_slice rate + 1) * wv) (sum nv xv (time_of m (has_unit i r v) (after_entry m from entry) entries)) rest)
        where
          sum : (a b c : ℕ) → a + b + c ≡ a + (b + c)
          sum a b c = omega arith

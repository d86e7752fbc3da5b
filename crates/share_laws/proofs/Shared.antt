-- The core of a pool with a unit that never sleeps is never idle, so the times of its units add up to all time; and so each has its share.
use Rattle.std.proofs.Common.{◌≡◌, ◌≤◌, ◌<◌, ◌+◌, ◌-◌, ◌*◌, ℕ, zero, suc, Bool, true, false, not, List, [], ◌∷◌, ◌++◌, refl, arith, cond, subst, sym, ap, ◌∙◌, inl, inr, length}
use Rattle.std.specs.Prelude.{Option, Some, None, is_none, ◌&&◌, ◌||◌, ◌==◌}
use Rattle.std.specs.List.{list_all, list_any, AllByRecursion}
use Rattle.std.proofs.lemmas.Bool.{and_from, cases_Bool, or_cases}
use Rattle.std.proofs.lemmas.List.{length-map}
use Rattle.sched_base.specs.declared.UnitId.{UnitId}
use Rattle.sched_base.proofs.Bools.{and_right, clash, or_more}
use Rattle.sched_base.proofs.Lists.{AllByRecursion-map}
use Rattle.sched_model.specs.declared.action.Action.{Action}
use Rattle.sched_model.specs.declared.event.Entry.{Entry}
use Rattle.sched_model.specs.declared.machine.Machine.{Machine}
use Rattle.sched_model.specs.declared.state.Credit2Domain.{Credit2Domain}
use Rattle.sched_model.specs.declared.state.Pool.{Pool}
use Rattle.sched_model.specs.declared.state.Records.{Records}
use Rattle.sched_model.specs.declared.state.Records.TheVariants.{Credit2Pool}
use Rattle.sched_model.specs.declared.state.Resource.{Resource}
use Rattle.sched_model.specs.declared.state.State.{State}
use Rattle.sched_model.specs.declared.state.Vcpu.{Vcpu}
use Rattle.sched_model.specs.Actions.{configured_units}
use Rattle.sched_model.specs.CheckedMachine.{IsChecked}
use Rattle.sched_model.specs.EligibleUnits.{has_cap_budget, is_unit_allowed, is_unit_eligible, may_have_core}
use Rattle.sched_model.specs.Machine.{after}
use Rattle.sched_model.specs.Places.{at_place, has_listed_unit, is_unit, same_unit}
use Rattle.sched_model.specs.Pool.{pool_core_set}
use Rattle.sched_model.specs.Runs.{Reached, IsNext, IsNextEvent, IsRun, IsRunFrom, after_entries, after_entry, after_event, after_quiet, event_action, named_next_moment, run_start}
use Rattle.sched_model.specs.State.{is_awake, is_not_stalled, may_unit_run, unit_runnable, vcpus_of_unit}
use Rattle.sched_model.proofs.RunLemmas.{IsRunFrom-append}
use Rattle.sched_laws.specs.Laws.{is_more_urgent, keeps_none_waiting}
use Rattle.sched_laws.specs.PoolFacts.{core_places, places}
use Rattle.sched_laws.specs.RunLaws.{NobodyWaits}
use Rattle.sched_laws.specs.StateLaws.{state_after}
use Rattle.sched_laws.specs.Counts.{one_at, times}
use Rattle.sched_laws.proofs.Awake.{part_past}
use Rattle.sched_laws.proofs.Choices.{same_unit_same}
use Rattle.sched_laws.proofs.Counts.{times_none, total_some}
use Rattle.sched_laws.proofs.Free.{now_after}
use Rattle.sched_laws.proofs.Lists.{some-test_at}
use Rattle.sched_laws.proofs.SiblingsLaw.{some_processor}
use Rattle.moment_laws.proofs.AllowedAlone.{allowed_alone}
use Rattle.term_laws.proofs.ReachedStates.{IsReached, reached_next, reached_opening}
use Rattle.service_laws.specs.OnTime.{IsOnTime}
use Rattle.service_laws.specs.Passing.{IsBeforeNext, at_moment}
use Rattle.service_laws.specs.Service.{has_unit, time_of, time_until}
use Rattle.service_laws.proofs.EndsSums.{next_rises}
use Rattle.service_laws.proofs.Passing.{NextMomentLaw}
use Rattle.undisturbed_laws.specs.Undisturbed.{Credit2DomainStays, DomainStays, NeverSleeps}
use Rattle.undisturbed_laws.proofs.Units.{core_there, never_sleeps}
use Rattle.share_laws.specs.Shares.{HasShare, HasWeight, IsPlainCredit2, IsWithinShare, longest_slice, pool_units, total_weight}
use Rattle.moment_laws.proofs.Tests.{or_later}
use Rattle.service_laws.proofs.SpanSums.{named_none}
use Rattle.share_laws.proofs.Fair.{constant_count}
use Rattle.share_laws.proofs.Paced.{unit_low}
use Rattle.share_laws.proofs.Runs.{OnTimeLaw, configured, core_on_time, one, pool_stays, single, unstalled_up}
use Rattle.share_laws.proofs.Start.{first_books}
use Rattle.share_laws.proofs.UnitSums.{all_weigh, count_of, count_once, same_weight, total_bound, total_none, total_of, total_single, total_sum}

-- what `law_waiting` says of a machine
abbrev pub WaitingLaw : Machine → Type 0
WaitingLaw m = (before : List Entry) (last : Entry) → IsRun m (before ++ last ∷ []) → event_action last.event ≡ None → NobodyWaits (state_after m before)

-- a unit of the list that passes
any_of : (test : UnitId → Bool) (units : List UnitId) (v : UnitId) → has_listed_unit units v ≡ true → test v ≡ true → list_any test units ≡ true
any_of test [] v has passes = absurd (cc)
any_of test (w ∷ units) v has passes = elim (or_cases (same_unit v w) (has_listed_unit units v) has) [
  | inl same ↦ or_more (test w) (list_any test units) (subst (λ (x : UnitId). test x ≡ true) (same_unit_same v w same) passes)
  | inr rest ↦ or_later (test w) (any_of test units v rest passes)
]

module _ (m : Machine) (checked : IsChecked m) (i r rate : ℕ) (plain : IsPlainCredit2 m i r rate) (law : NextMomentLaw m) (on_time : OnTimeLaw m) (waiting : WaitingLaw m) (v : UnitId) (wv : ℕ) (never : NeverSleeps m v) (has_v : HasWeight m i v wv) where
  module _ (from : Reached) (entry : Entry) (next : IsNext m from entry) (reached : IsReached m from.state) (quiet : event_action entry.event ≡ None) (later : ℕ) (is : named_next_moment entry.event ≡ Some later) (rise : from.state.now < later) where
    module _ (pool : Pool) (at : at_place from.state.pools i ≡ Some pool) (core : Resource) (has : at_place pool.resources r ≡ Some core) where
      punctual : IsOnTime from.state.now core
      punctual = core_on_time m checked i r rate plain law on_time from entry next reached from.state.now (record { quiet = quiet; from = omega arith; until = subst (λ (o : Option ℕ). IsBeforeNext m.config.horizon.0 o from.state.now) (sym is) rise }) pool at core has

      runs : may_unit_run m.config.granularity pool v ≡ true
      runs = never_sleeps m checked i plain.config pool (pool_stays m checked i r rate plain from.state reached pool at) v never has_v.domain has_v.home

      here_waits : NobodyWaits from.state
      here_waits =
          let here : after_entries m (run_start m) reached.before ≡ from = reached.leads ∙ sym (ap (λ (b : Bool). record { state = from.state; over = b }) next.goes_on) in
          let run : IsRun m (reached.before ++ entry ∷ []) = IsRunFrom-append m (run_start m) reached.before entry reached.run (subst (λ (f : Reached). IsNext m f entry) (sym here) next) in
          subst NobodyWaits (ap (λ (x : Reached). x.state) here) (waiting reached.before entry run quiet)

      eligible : is_unit_eligible pool.scheduler (pool_core_set pool) r from.state.now v ≡ true
      eligible =
          let s = pool_stays m checked i r rate plain from.state reached pool at in
          let b = first_books m checked i r rate plain pool s in
          let own = b.2.domains.own v.dom.0 has_v.domain has_v.home in
          let d : Credit2Domain = own.item in
          let params : Credit2DomainStays m.config.granularity has_v.domain d = own.meets in
          let x = params.params in
          let y = has_v.params in
          let free : d.cap ≡ 0 = cc in
          let budget : may_have_core (Credit2Pool b.0) pool.scheduler (pool_core_set pool) r from.state.now v ≡ true =
          ap (λ (o : Option Credit2Domain). elim o as (λ _. Bool) [ None ↦ false | Some z ↦ has_cap_budget z ]) own.at ∙ or_more (d.cap == 0) _ (is_zero d.cap free) in
          and_from (is_unit_allowed pool.scheduler (pool_core_set pool) r v) (may_have_core pool.scheduler.records pool.scheduler (pool_core_set pool) r from.state.now v)
          (allowed_alone pool.scheduler pool.resources r core has (single m checked i r rate plain from.state reached pool at) v)
          (subst (λ (rs : Records). may_have_core rs pool.scheduler (pool_core_set pool) r from.state.now v ≡ true) (sym b.1) budget)
        where
          is_zero : (n : ℕ) → n ≡ 0 → (n == 0) ≡ true
          is_zero n is = grind (arith, is)

      -- an idle core would keep the unit waiting
      not_queued : core.cur ≡ None → has_listed_unit pool.scheduler.queue v ≡ true → ⊥
      not_queued idle queued =
          let c = (pool_stays m checked i r rate plain from.state reached pool at).cores_stay r core has in
          let usable : (not core.leaving && list_all (is_not_stalled from.state.now) core.processors) ≡ true = and_from (not core.leaving) (list_all (is_not_stalled from.state.now) core.processors) (ap not c.stays) (unstalled_up from.state.now core.processors c.unstalled) in
          let some : list_any (is_unit_eligible pool.scheduler (pool_core_set pool) r from.state.now) pool.scheduler.queue ≡ true = any_of (is_unit_eligible pool.scheduler (pool_core_set pool) r from.state.now) pool.scheduler.queue v queued eligible in
          let keeps : keeps_none_waiting from.state.now pool (r, core) ≡ true = here_waits i pool at r core has in
          let none : (not (not core.leaving && list_all (is_not_stalled from.state.now) core.processors) || not (list_any (is_unit_eligible pool.scheduler (pool_core_set pool) r from.state.now) pool.scheduler.queue)) ≡ true =
          subst (λ (o : Option UnitId). (not (not core.leaving && list_all (is_not_stalled from.state.now) core.processors) || elim o as (λ _. Bool) [
            | None ↦ not (list_any (is_unit_eligible pool.scheduler (pool_core_set pool) r from.state.now) pool.scheduler.queue)
            | Some cur ↦
                is_unit_allowed pool.scheduler (pool_core_set pool) r cur
                && not (list_any (λ u. is_unit_eligible pool.scheduler (pool_core_set pool) r from.state.now u && is_more_urgent pool.scheduler.records cur u) pool.scheduler.queue)
          ]) ≡ true) idle keeps in
          both (not core.leaving && list_all (is_not_stalled from.state.now) core.processors) (list_any (is_unit_eligible pool.scheduler (pool_core_set pool) r from.state.now) pool.scheduler.queue) usable some none
        where
          both : (a b : Bool) → a ≡ true → b ≡ true → (not a || not b) ≡ true → ⊥
          both true true x y z = cc
          both true false x y z = cc
          both false b x y z = cc

      -- so the core is not idle
      not_idle : core.cur ≡ None → ⊥
      not_idle idle =
          elim (cases_Bool (has_listed_unit pool.scheduler.queue v)) [
            | inl queued ↦ not_queued idle queued
            | inr off ↦ (
                let o = one m checked i r rate plain from.state reached pool at in
                let placed : 1 ≤ places pool v = elim (o.runs v runs) as (λ _. 1 ≤ places pool v) [ inl has_one ↦ has_one | inr nobody ↦ absurd nobody ] in
                let none : times v pool.scheduler.queue ≡ 0 = times_none v pool.scheduler.queue off in
                let found = total_some (core_places v) pool.resources (omega (arith, placed, none)) in
                let where_r : found.0 ≡ r = single m checked i r rate plain from.state reached pool at found.0 found.1 found.2 in
                let at_r : at_place pool.resources r ≡ Some found.1 = subst (λ k. at_place pool.resources k ≡ Some found.1) where_r found.2 in
                let same : found.1 ≡ core = cc in
                let has_one : 1 ≤ core_places v core = subst (λ (x : Resource). 1 ≤ core_places v x) same found.3 in
                let no_cur : one_at v core.cur ≡ 0 = ap (one_at v) idle in
                let no_saving : one_at v core.saving ≡ 0 = ap (one_at v) punctual.saved in
                neither (one_at v core.cur) (one_at v core.saving) has_one no_cur no_saving)
          ]
        where
          neither : (a b : ℕ) → 1 ≤ a + b → a ≡ 0 → b ≡ 0 → ⊥
          neither a b some x y = omega (arith, some, x, y)

      -- its unit is one of the list
      once : (w : UnitId) → core.cur ≡ Some w → count_of w (pool_units m i) ≡ 1
      once w cur =
          let g : ℕ = m.config.granularity in
          let calm = punctual.decided in
          let o = one m checked i r rate plain from.state reached pool at in
          let run : may_unit_run g pool w ≡ true = elim (o.cur r core has w cur) as (λ _. may_unit_run g pool w ≡ true) [ inl may ↦ may | inr pending ↦ absurd (clash core.pending pending calm) ] in
          let d = some-test_at pool.domains w.dom.0 (λ x. unit_runnable g x w.n) run in
          let s = pool_stays m checked i r rate plain from.state reached pool at in
          let home = s.domains.others w.dom.0 d.0 d.1 in
          let own = s.domains.own w.dom.0 home.0 home.1 in
          let found = own.at in
          let there = d.1 in
          let same : own.item ≡ d.0 = cc in
          let scripts : DomainStays home.0 d.0 = subst (DomainStays home.0) same own.meets in
          let count : length d.0.vcpus ≡ length home.0.guests = sym (length-map d.0.vcpus (λ (y : Vcpu). y.script)) ∙ ap length scripts.scripts in
          let within = part_past is_awake g (w.n * g) d.0.vcpus (and_right (not d.0.paused && is_none d.0.moving) (list_any is_awake (vcpus_of_unit g d.0 w.n)) d.2) in
          let low : w.n < configured_units g home.0 = unit_low g w.n (length home.0.guests) (some_processor g checked.config.granularity) (omega (arith, within, count)) in
          count_once g i w 0 w.dom.0 m.config.domains home.0 (omega arith) home.1.there home.1.home low

      busy : (o : Option UnitId) → core.cur ≡ o → (w : UnitId) × (core.cur ≡ Some w)
      busy None idle = absurd (not_idle idle)
      busy (Some w) cur = (w, cur)

    -- the times that pass with the entry add up to all that passes
    sum_later : total_of (λ u. time_until (has_unit i r u) from.state (Some later)) (pool_units m i) ≡ later - from.state.now
    sum_later =
        let s : State = from.state in
        let first = (configured m checked i r rate plain s reached).pools i plain.config plain.there in
        let core = core_there m i r plain.config first.item first.meets plain.core in
        let w = busy first.item first.at core.0 core.1 core.0.cur refl in
        let passed : (u : UnitId) → time_until (has_unit i r u) s (Some later) ≡ cond (same_unit w.0 u) (later - s.now) 0 =
        λ u. counted_from u first.item first.at core.0 core.1 w.0 w.1 in
        let sum = total_single w.0 (later - s.now) (λ u. time_until (has_unit i r u) s (Some later)) passed (pool_units m i) in
        let single_unit = once first.item first.at core.0 core.1 w.0 w.1 in
        sum ∙ ap (λ n. n * (later - s.now)) single_unit ∙ one_time (later - s.now)
      where
        one_time : (n : ℕ) → 1 * n ≡ n
        one_time n = omega arith

        counted_from : (u : UnitId) (pool : Pool) → at_place from.state.pools i ≡ Some pool → (core : Resource) → at_place pool.resources r ≡ Some core → (w : UnitId) → core.cur ≡ Some w → time_until (has_unit i r u) from.state (Some later) ≡ cond (same_unit w u) (later - from.state.now) 0
        counted_from u pool at core has w cur =
            constant_count (λ k. has_unit i r u (at_moment k from.state)) (same_unit w u) from.state.now (later - from.state.now)
            (λ k. ap (λ (o : Option Pool). elim o as (λ _. Bool) [ None ↦ false | Some p ↦ elim (at_place p.resources r) as (λ _. Bool) [ None ↦ false | Some c ↦ is_unit c.cur u ] ]) at
            ∙ ap (λ (o : Option Resource). elim o as (λ _. Bool) [ None ↦ false | Some c ↦ is_unit c.cur u ]) has
            ∙ ap (λ (o : Option UnitId). is_unit o u) cur)

  -- all time so far
  conserved : (from : Reached) (entries : List Entry) → IsRunFrom m from entries → IsReached m from.state → total_of (λ u. time_of m (has_unit i r u) from entries) (pool_units m i) + from.state.now ≡ (after_entries m from entries).state.now
  conserved from [] run reached = (let none = total_none (λ u. time_of m (has_unit i r u) from []) (λ u. refl) (pool_units m i) in omega (arith, none))
  conserved from (entry ∷ entries) run reached =
      let rest = conserved (after_entry m from entry) entries run.1 (reached_next m from entry run.0 reached) in
      let split = total_sum (λ u. time_until (has_unit i r u) from.state (named_next_moment entry.event)) (λ u. time_of m (has_unit i r u) (after_entry m from entry) entries) (λ u. time_of m (has_unit i r u) from (entry ∷ entries)) (λ u. refl) (pool_units m i) in
      let here = by_action (event_action entry.event) refl run.0.event in
      sums (total_of (λ u. time_of m (has_unit i r u) from (entry ∷ entries)) (pool_units m i)) (total_of (λ u. time_until (has_unit i r u) from.state (named_next_moment entry.event)) (pool_units m i)) (total_of (λ u. time_of m (has_unit i r u) (after_entry m from entry) entries) (pool_units m i)) from.state.now (after_entry m from entry).state.now (after_entries m (after_entry m from entry) entries).state.now split here rest
    where
      sums : (all here rest now next end : ℕ) → all ≡ here + rest → here + now ≡ next → rest + next ≡ end → all + now ≡ end
      sums all here rest now next end a b c = omega (arith, a, b, c)

      nothing : total_of (λ u. time_until (has_unit i r u) from.state None) (pool_units m i) + from.state.now ≡ from.state.now
      nothing = (let none = total_none (λ u. time_until (has_unit i r u) from.state None) (λ u. refl) (pool_units m i) in omega (arith, none))

      by_end : (end : Option ℕ) → named_next_moment entry.event ≡ end → event_action entry.event ≡ None → IsNextEvent m from.state entry.event None → total_of (λ u. time_until (has_unit i r u) from.state end) (pool_units m i) + from.state.now ≡ (after_quiet end from).state.now
      by_end None is quiet ev = nothing
      by_end (Some later) is quiet ev =
          let rise : from.state.now < later = (next_rises m law from.state ev.0 later (ev.1 ∙ is)).0 in
          let sum = sum_later from entry run.0 reached quiet later is rise in
          restored (total_of (λ u. time_until (has_unit i r u) from.state (Some later)) (pool_units m i)) from.state.now later sum rise
        where
          restored : (x now later : ℕ) → x ≡ later - now → now < later → x + now ≡ later
          restored x now later sum rise = omega (arith, sum, rise)

      by_action : (o : Option Action) → event_action entry.event ≡ o → IsNextEvent m from.state entry.event o → total_of (λ u. time_until (has_unit i r u) from.state (named_next_moment entry.event)) (pool_units m i) + from.state.now ≡ (after_event m entry.event o from).state.now
      by_action None is ev = by_end (named_next_moment entry.event) refl is ev
      by_action (Some action) is ev =
          subst (λ (end : Option ℕ). total_of (λ u. time_until (has_unit i r u) from.state end) (pool_units m i) + from.state.now ≡ (after m from.state from.state.now action).now) (sym (named_none entry.event action is))
          (nothing ∙ sym (now_after m from.state from.state.now action))

  -- each has its share
  pub has_share : (entries : List Entry) → IsRun m entries → ((u : UnitId) (wu : ℕ) → HasWeight m i u wu → IsWithinShare m i r rate u wu v wv entries) → HasShare m i r rate v wv entries
  has_share entries run within =
      let all = conserved (run_start m) entries run (reached_opening m) in
      let each : AllByRecursion (λ (e : UnitId × ℕ). time_of m (has_unit i r e.0) (run_start m) entries * wv ≤ time_of m (has_unit i r v) (run_start m) entries * e.1 + cond (same_unit v e.0) 0 ((longest_slice rate + 1) * wv)) (pool_units m i) =
      AllByRecursion-map (λ (e : UnitId × ℕ). HasWeight m i e.0 e.1) (λ (e : UnitId × ℕ). time_of m (has_unit i r e.0) (run_start m) entries * wv ≤ time_of m (has_unit i r v) (run_start m) entries * e.1 + cond (same_unit v e.0) 0 ((longest_slice rate + 1) * wv)) (λ e has. by_unit e has (same_unit v e.0) refl) (pool_units m i) (all_weigh m i r rate plain) in
      let bound = total_bound v (λ u. time_of m (has_unit i r u) (run_start m) entries) wv ((longest_slice rate + 1) * wv) (pool_units m i) each in
      let one_v : count_of v (pool_units m i) ≡ 1 = count_once m.config.granularity i v 0 v.dom.0 m.config.domains has_v.domain (omega arith) has_v.home.there has_v.home.home has_v.inside in
      final (total_of (λ u. time_of m (has_unit i r u) (run_start m) entries) (pool_units m i)) (state_after m entries).now (time_of m (has_unit i r v) (run_start m) entries * total_weight (pool_units m i)) ((longest_slice rate + 1) * wv) (count_of v (pool_units m i)) (length (pool_units m i)) (some_unit v (pool_units m i) one_v) one_v all bound
    where
      by_unit : (e : UnitId × ℕ) → HasWeight m i e.0 e.1 → (b : Bool) → same_unit v e.0 ≡ b → time_of m (has_unit i r e.0) (run_start m) entries * wv ≤ time_of m (has_unit i r v) (run_start m) entries * e.1 + cond b 0 ((longest_slice rate + 1) * wv)
      by_unit e has true is =
          let same : v ≡ e.0 = same_unit_same v e.0 is in
          let weight : wv ≡ e.1 = same_weight m i r rate plain v e.0 wv e.1 same has_v has in
          subst (λ (x : UnitId). time_of m (has_unit i r x) (run_start m) entries * wv ≤ time_of m (has_unit i r v) (run_start m) entries * e.1 + 0) same (equal (time_of m (has_unit i r v) (run_start m) entries) wv e.1 weight)
        where
          equal : (t a b : ℕ) → a ≡ b → t * a ≤ t * b + 0
          equal t a b same = subst (λ x. t * a ≤ t * x + 0) same (omega arith)
      by_unit e has false is = within e.0 e.1 has

      some_unit : (w : UnitId) (units : List (UnitId × ℕ)) → count_of w units ≡ 1 → 1 ≤ length units
      some_unit w [] is = absurd (omega (arith, is))
      some_unit w (e ∷ units) is = omega arith

      final : (total now bound k count n : ℕ) → 1 ≤ n → count ≡ 1 → total + 0 ≡ now → total * wv + count * k ≤ bound + n * k → now * wv ≤ bound + (n - 1) * k
      final total now bound k count zero some one_unit all less = absurd (omega (arith, some))
      final total now bound k count (suc n) some one_unit all less =
          let e : suc n - 1 ≡ n = omega arith in
          let same : total ≡ now = omega (arith, all) in
          subst (λ x. now * wv ≤ bound + x * k) (sym e) (subst (λ x. x * wv ≤ bound + n * k) same (taken total bound k n (subst (λ x. total * wv + x * k ≤ bound + suc n * k) one_unit less)))
        where
          taken : (total bound k n : ℕ) → total * wv + 1 * k ≤ bound + suc n * k → total * wv ≤ bound + n * k
          taken total bound k n less = omega (arith, less)

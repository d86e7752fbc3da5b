-- A decision in a null pool: a unit that was given the core stays, and one that comes is given the core.
use Rattle.std.proofs.Common.{◌≡◌, ◌≢◌, ◌≤◌, ◌<◌, ℕ, zero, suc, Bool, true, false, not, List, [], ◌∷◌, refl, arith, ap, cond, subst, sym, ◌∙◌, ◌⊎◌, inl, inr, length}
use Rattle.std.specs.Prelude.{Option, Some, None, filter, ◌&&◌, ◌||◌}
use Rattle.std.specs.List.{list_any}
use Rattle.std.proofs.lemmas.Bool.{false_from_ne_true, cases_Bool, or_cases, and_from}
use Rattle.sched_base.specs.declared.UnitId.{UnitId}
use Rattle.sched_base.specs.declared.Cores.{Cores}
use Rattle.sched_model.specs.declared.machine.Machine.{Machine}
use Rattle.sched_model.specs.declared.state.Pool.{Pool}
use Rattle.sched_model.specs.declared.state.Domain.{Domain}
use Rattle.sched_model.specs.declared.state.Resource.{Resource}
use Rattle.sched_model.specs.declared.state.Scheduler.{Scheduler}
use Rattle.sched_model.specs.declared.state.Records.{Records}
use Rattle.sched_model.specs.declared.state.Records.TheVariants.{NullPool}
use Rattle.sched_model.specs.declared.ask.Ask.{Ask}
use Rattle.sched_model.specs.Places.{at_place, put_at, clear_at, has_listed_unit, is_unit, same_unit}
use Rattle.sched_model.specs.State.{may_unit_run, has_core_bit}
use Rattle.sched_model.specs.EligibleUnits.{is_unit_allowed, is_unit_eligible, is_unit_placed, may_have_core, eligible_units}
use Rattle.sched_model.specs.NullScheduler as null
use Rattle.sched_model.specs.Policy.{is_unit_better, has_better_waiting}
use Rattle.sched_model.specs.Pool.{pool_core_set, core_ask}
use Rattle.sched_base.proofs.Bools.{and_left, and_right, or_more, clash}
use Rattle.sched_laws.proofs.Choices.{is_unit_same, same_unit_same, at_unit}
use Rattle.sched_laws.proofs.Counts.{same_unit_refl}
use Rattle.sched_laws.proofs.EachPlace.{place_below, at_place-put_at, at_place-put_at_other, at_place-clear_at_other}
use Rattle.sched_laws.proofs.HomeCores.{home_has}
use Rattle.sched_laws.proofs.Lists.{is_some_at}
use Rattle.sched_laws.proofs.NullKept.{KeptFits, at_released, length_released}
use Rattle.moment_laws.specs.Stretches.{units}
use Rattle.moment_laws.specs.Turns.{keeps, ahead}
use Rattle.moment_laws.specs.GoodDecisions.{DecidesWell, StirsNone, SecureThen, decision, next, Standing}
use Rattle.moment_laws.proofs.Waiting.{any_after, any_has, less_waits}
use Rattle.moment_laws.proofs.Tests.{or_later}

-- a core is kept for a unit for which it is kept: nothing changes
released_none : (u : UnitId) (kept : List (Option UnitId)) → ((q : ℕ) → at_place kept q ≡ Some u → ⊥) → null.kept_without (same_unit u) kept ≡ kept
released_none u [] none = refl
released_none u (None ∷ kept) none = ap (λ xs. None ∷ xs) (released_none u kept (λ q at. none (suc q) at))
released_none u (Some w ∷ kept) none =
    elim (same_unit u w) as (λ b. same_unit u w ≡ b → ◌≡◌ {A = List (Option UnitId)} (cond b None (Some w) ∷ null.kept_without (same_unit u) kept) (Some w ∷ kept)) [
      | true ↦ λ is. absurd (none zero (ap (λ x. Some x) (sym (same_unit_same u w is))))
      | false ↦ λ is. ap (λ xs. Some w ∷ xs) (released_none u kept (λ q at. none (suc q) at))
    ] refl

kept_again : (r : ℕ) (u : UnitId) (kept : List (Option UnitId)) → at_place kept r ≡ Some u → ((q : ℕ) → at_place kept q ≡ Some u → q ≡ r) → null.kept_for r u kept ≡ kept
kept_again r u [] at once = absurd (cc)
kept_again zero u (x ∷ kept) at once = ap (λ xs. Some u ∷ xs) (released_none u kept (λ q at_q. (let e = once (suc q) at_q in omega (arith, e)))) ∙ ap (λ o. o ∷ kept) (sym at)
kept_again (suc r) u (None ∷ kept) at once = ap (λ xs. None ∷ xs) (kept_again r u kept at (λ q at_q. (let e = once (suc q) at_q in omega (arith, e))))
kept_again (suc r) u (Some w ∷ kept) at once =
    elim (same_unit u w) as (λ b. same_unit u w ≡ b → ◌≡◌ {A = List (Option UnitId)} (cond b None (Some w) ∷ put_at r u (null.kept_without (same_unit u) kept)) (Some w ∷ kept)) [
      | true ↦ λ is. absurd (let e = once zero (ap (λ x. Some x) (sym (same_unit_same u w is))) in omega (arith, e))
      | false ↦ λ is. ap (λ xs. Some w ∷ xs) (kept_again r u kept at (λ q at_q. (let e = once (suc q) at_q in omega (arith, e))))
    ] refl

none_found : (test : UnitId → Bool) (xs : List UnitId) → null.earliest_unit (filter test xs) ≡ None → list_any test xs ≡ false
none_found test [] none = refl
none_found test (x ∷ xs) none =
    elim (test x) as (λ b. null.earliest_unit (cond b (x ∷ filter test xs) (filter test xs)) ≡ None → (b || list_any test xs) ≡ false) [
      | true ↦ λ e. absurd (cc)
      | false ↦ λ e. none_found test xs e
    ] none

first_has : (test : UnitId → Bool) (xs : List UnitId) (w : UnitId) → null.earliest_unit (filter test xs) ≡ Some w → (has_listed_unit xs w ≡ true) × (test w ≡ true)
first_has test [] w is = absurd (cc)
first_has test (x ∷ xs) w is =
    elim (test x) as (λ b. test x ≡ b → null.earliest_unit (cond b (x ∷ filter test xs) (filter test xs)) ≡ Some w → ((same_unit w x || has_listed_unit xs w) ≡ true) × (test w ≡ true)) [
      | true ↦ λ yes e. (let same : x ≡ w = cc in (or_more (same_unit w x) _ (subst (λ y. same_unit y x ≡ true) same (same_unit_refl x)), subst (λ y. test y ≡ true) same yes))
      | false ↦ λ no e. (let r = first_has test xs w e in (or_later (same_unit w x) r.0, r.1))
    ] refl is

module _ (m : Machine) (t : ℕ) (queue : List UnitId) (affinity : List (Option (List Cores))) (kept : List (Option UnitId)) (domains : List (Option Domain)) (resources : List (Option Resource)) (r : ℕ) (c : Resource) where
  abbrev scheduler : Scheduler
  scheduler = record { queue = queue; affinity = affinity; records = NullPool kept }

  abbrev pool : Pool
  pool = record { scheduler = scheduler; domains = domains; resources = resources }

  abbrev home : ℕ
  home = pool_core_set pool

  abbrev ask : Ask
  ask = core_ask m.config.granularity t pool r c

  abbrev runs : UnitId → Bool
  runs u = may_unit_run m.config.granularity pool u

  abbrev choice : Option UnitId
  choice = null.null_choice ask scheduler kept

  -- for which units the cores are kept then
  abbrev kept_by : Option UnitId → List (Option UnitId)
  kept_by chosen = elim chosen as (λ _. List (Option UnitId)) [ None ↦ kept | Some u ↦ null.kept_for r u kept ]

  abbrev kept_next : List (Option UnitId)
  kept_next = cond c.leaving (clear_at r kept) (kept_by choice)

  decide_records : (chosen : Option UnitId) → (null.null_decision_for r kept chosen).records ≡ NullPool (kept_by chosen)
  decide_records None = refl
  decide_records (Some u) = refl

  decide_unit : (chosen : Option UnitId) → (null.null_decision_for r kept chosen).unit ≡ chosen
  decide_unit None = refl
  decide_unit (Some u) = refl

  records_next : (next m t pool r c).records ≡ NullPool kept_next
  records_next =
      elim c.leaving as (λ b. (cond b (null.null_decision_for r (clear_at r kept) None) (null.null_decision_for r kept choice)).records ≡ NullPool (cond b (clear_at r kept) (kept_by choice))) [
        | true ↦ refl
        | false ↦ decide_records choice
      ]

  unit_next : c.leaving ≡ false → (decision m t pool r c).unit ≡ choice
  unit_next stays = ap (λ b. (cond b (null.null_decision_for r (clear_at r kept) None) (null.null_decision_for r kept choice)).unit) stays ∙ decide_unit choice

  kept_stays : c.leaving ≡ false → kept_next ≡ kept_by choice
  kept_stays stays = ap (λ b. cond b (clear_at r kept) (kept_by choice)) stays

  ahead_next : (u : UnitId) → ahead (next m t pool r c).records u ≡ 0
  ahead_next u = ap (λ (x : Records). ahead x u) records_next

  keeps_next : (k : ℕ) (u : UnitId) → keeps (next m t pool r c).records (next m t pool r c) home k t u ≡ is_unit_placed scheduler kept_next home k u
  keeps_next k u = ap (λ (x : Records). keeps x (next m t pool r c) home k t u) records_next

  fewer_next : (test : UnitId → Bool) → list_any test (next m t pool r c).queue ≡ true → list_any test queue ≡ true
  fewer_next test is = any_after test (decision m t pool r c).unit queue is

  -- where the cores are kept for the same units, nobody is stirred
  others_stay : kept_next ≡ kept → (k : ℕ) (x : Resource) → has_better_waiting x.cur x.since.0 t k home (next m t pool r c) ≡ true → has_better_waiting x.cur x.since.0 t k home scheduler ≡ true
  others_stay same k x is =
      let records : (next m t pool r c).records ≡ NullPool kept = records_next ∙ ap NullPool same in
      less_waits t k home x.since.0 x.cur scheduler (next m t pool r c) (λ u. refl)
      (λ u e. sym (ap (λ (y : Records). is_unit_allowed scheduler home k u && may_have_core y (next m t pool r c) home k t u) records) ∙ e)
      (λ u w own e. sym (ap (λ (y : Records). is_unit_better y u x.since.0 t w) records) ∙ e) fewer_next is

  module _ (standing : Standing m pool r c) (fits : KeptFits kept resources) where
    inside : r < length kept
    inside = (let a = place_below resources r c standing.at in let b = fits.count in omega (arith, a, b))

    -- the chosen unit is the core's own, or waits and is eligible
    abbrev Chosen : UnitId → Type 0
    Chosen w = ((c.cur ≡ Some w) × (runs w ≡ true) × (is_unit_placed scheduler kept home r w ≡ true)) ⊎ ((has_listed_unit queue w ≡ true) × (is_unit_eligible scheduler home r t w ≡ true))

    waits_of : (w : UnitId) → null.placed_or_earliest ask scheduler kept ≡ Some w → Chosen w
    waits_of w is = inr (first_has (is_unit_eligible scheduler home r t) queue w is)

    choice_of : (cur : Option UnitId) (w : UnitId) → c.cur ≡ cur → elim cur as (λ _. Option UnitId) [ None ↦ null.placed_or_earliest ask scheduler kept | Some u ↦ cond (ask.runnable && is_unit_placed scheduler kept home r u) (Some u) (null.placed_or_earliest ask scheduler kept) ] ≡ Some w → Chosen w
    choice_of None w cur is = waits_of w is
    choice_of (Some u) w cur is =
        elim (ask.runnable && is_unit_placed scheduler kept home r u) as (λ b. (ask.runnable && is_unit_placed scheduler kept home r u) ≡ b → cond b (Some u) (null.placed_or_earliest ask scheduler kept) ≡ Some w → Chosen w) [
          | true ↦ λ yes e. (
              let same : u ≡ w = cc in
              let run : runs u ≡ true = sym (ap (λ (o : Option UnitId). elim o as (λ _. Bool) [ None ↦ false | Some x ↦ may_unit_run m.config.granularity pool x ]) cur) ∙ and_left ask.runnable _ yes in
              subst Chosen same (inl (cur, run, and_right ask.runnable _ yes)))
          | false ↦ λ no e. waits_of w e
        ] refl is

    runs_chosen : (w : UnitId) → Chosen w → runs w ≡ true
    runs_chosen w chosen = elim chosen [ inl own ↦ own.1 | inr waits ↦ at_unit (λ u. runs u ≡ true) w queue waits.0 standing.waits ]

    allowed_chosen : (w : UnitId) → Chosen w → is_unit_allowed scheduler home r w ≡ true
    allowed_chosen w chosen = elim chosen [ inl own ↦ and_right (is_unit (at_place kept r) w && has_core_bit home r) _ own.2 | inr waits ↦ and_left (is_unit_allowed scheduler home r w) _ waits.1 ]

    some_unit : (w : UnitId) → Chosen w → 1 ≤ units m
    some_unit w chosen = elim chosen [ inl own ↦ (standing.own w own.0).1 | inr waits ↦ standing.counted w waits.0 ]

    secure_next : c.leaving ≡ false → (w : UnitId) → choice ≡ Some w → Chosen w → SecureThen m t pool r c r w
    secure_next stays w is chosen =
        let same : kept_next ≡ null.kept_for r w kept = kept_stays stays ∙ ap kept_by is in
        let at : at_place kept_next r ≡ Some w = ap (λ k. at_place k r) same ∙ at_place-put_at r w (null.kept_without (same_unit w) kept) (let a = inside in let b = length_released (same_unit w) kept in omega (arith, a, b)) in
        let has : has_core_bit home r ≡ true = home_has resources r ∙ is_some_at (at_place resources r) c standing.at in
        let allowed = allowed_chosen w chosen in
        let placed : is_unit_placed scheduler kept_next home r w ≡ true = and_from (is_unit (at_place kept_next r) w && has_core_bit home r) _ (and_from (is_unit (at_place kept_next r) w) _ (ap (λ o. is_unit o w) at ∙ same_unit_refl w) has) allowed in
        and_from (runs w && is_unit_allowed scheduler home r w) _ (and_from (runs w) _ (runs_chosen w chosen) allowed) (keeps_next r w ∙ placed)

    -- what another core's own unit was given, it has still
    placed_then : (k : ℕ) (x : Resource) (u : UnitId) → k ≢ r → at_place resources k ≡ Some x → x.cur ≡ Some u → at_place kept k ≡ Some u → at_place kept_next k ≡ Some u
    placed_then k x u other at cur kept_k = elim (cases_Bool c.leaving) [
      | inl goes ↦ ap (λ b. at_place (cond b (clear_at r kept) (kept_by choice)) k) goes ∙ at_place-clear_at_other r k kept other ∙ kept_k
      | inr stays ↦ ap (λ xs. at_place xs k) (kept_stays stays) ∙ by_choice choice refl
    ]
      where
        by_choice : (o : Option UnitId) → choice ≡ o → at_place (kept_by o) k ≡ Some u
        by_choice None is = kept_k
        by_choice (Some w) is =
            let chosen = choice_of c.cur w refl is in
            let apart = standing.others k x u other at cur in
            at_place-put_at_other r k w (null.kept_without (same_unit w) kept) other
            ∙ at_released (same_unit w) kept k u kept_k (false_from_ne_true (same_unit w u) (λ same. (
            let e : w ≡ u = same_unit_same w u same in
            elim chosen [
              | inl own ↦ apart.1 (own.0 ∙ ap (λ y. Some y) e)
              | inr waits ↦ clash (has_listed_unit queue u) (subst (λ y. has_listed_unit queue y ≡ true) e waits.0) apart.0
            ])))

    -- a core whose own unit is allowed is not stirred
    none_better : (u : UnitId) → c.cur ≡ Some u → is_unit_allowed scheduler home r u ≡ true → has_better_waiting c.cur c.since.0 t r home scheduler ≡ false
    none_better u cur allowed =
        ap (λ (o : Option UnitId). has_better_waiting o c.since.0 t r home scheduler) cur
        ∙ false_from_ne_true (not (is_unit_allowed scheduler home r u) || list_any (λ w. is_unit_eligible scheduler home r t w && false) queue) (λ is. elim (or_cases (not (is_unit_allowed scheduler home r u)) (list_any (λ w. is_unit_eligible scheduler home r t w && false) queue) is) [
          | inl barred ↦ clash (not (is_unit_allowed scheduler home r u)) barred (ap not allowed)
          | inr some ↦ (let w = any_has (λ w. is_unit_eligible scheduler home r t w && false) queue some in clash false (and_right (is_unit_eligible scheduler home r t w.0) false w.2) refl)
        ])

    stirs_none : kept_next ≡ kept → has_better_waiting c.cur c.since.0 t r home scheduler ≡ false → StirsNone m t pool r c
    stirs_none same none = record {
      own = false_from_ne_true _ (λ is. clash (has_better_waiting c.cur c.since.0 t r home scheduler) (others_stay same r c is) none);
      others = λ k x other at stirred. others_stay same k x stirred;
    }

    pub null_well : DecidesWell m t pool r c
    null_well = record {
      leaves = λ goes. ap (λ b. (cond b (null.null_decision_for r (clear_at r kept) None) (null.null_decision_for r kept choice)).unit) goes;
      chosen = λ stays w is. (
          let chose : choice ≡ Some w = sym (unit_next stays) ∙ is in
          let chosen = choice_of c.cur w refl chose in
          let none = ahead_next w in
          let one = some_unit w chosen in
          (secure_next stays w chose chosen, omega (arith, none, one)));
      kept = λ stays u cur secure. (
          let placed : is_unit_placed scheduler kept home r u ≡ true = and_right (runs u && is_unit_allowed scheduler home r u) _ secure in
          let two = and_left (runs u && is_unit_allowed scheduler home r u) _ secure in
          let goes_on : (ask.runnable && is_unit_placed scheduler kept home r u) ≡ true = and_from ask.runnable _ (ap (λ (o : Option UnitId). elim o as (λ _. Bool) [ None ↦ false | Some x ↦ may_unit_run m.config.granularity pool x ]) cur ∙ and_left (runs u) _ two) placed in
          let chose : choice ≡ Some u = ap (λ (o : Option UnitId). elim o as (λ _. Option UnitId) [ None ↦ null.placed_or_earliest ask scheduler kept | Some w ↦ cond (ask.runnable && is_unit_placed scheduler kept home r w) (Some w) (null.placed_or_earliest ask scheduler kept) ]) cur ∙ ap (λ b. cond b (Some u) (null.placed_or_earliest ask scheduler kept)) goes_on in
          let at_r : at_place kept r ≡ Some u = is_unit_same (at_place kept r) u (and_left (is_unit (at_place kept r) u) _ (and_left (is_unit (at_place kept r) u && has_core_bit home r) _ placed)) in
          let same : kept_next ≡ kept = kept_stays stays ∙ ap kept_by chose ∙ kept_again r u kept at_r (λ q at_q. fits.once q r u at_q at_r) in
          let none = ahead_next u in
          (u, unit_next stays ∙ chose, inl (refl, omega (arith, none), stirs_none same (none_better u cur (and_right (runs u) _ two)))));
      idle = λ stays cur none. (
          let chose : choice ≡ None = sym (unit_next stays) ∙ none in
          let same : kept_next ≡ kept = kept_stays stays ∙ ap kept_by chose in
          let first : null.earliest_unit (eligible_units scheduler home r t) ≡ None = sym (ap (λ (o : Option UnitId). elim o as (λ _. Option UnitId) [ None ↦ null.placed_or_earliest ask scheduler kept | Some w ↦ cond (ask.runnable && is_unit_placed scheduler kept home r w) (Some w) (null.placed_or_earliest ask scheduler kept) ]) cur) ∙ chose in
          stirs_none same (ap (λ (o : Option UnitId). has_better_waiting o c.since.0 t r home scheduler) cur ∙ none_found (is_unit_eligible scheduler home r t) queue first));
      few = λ u. (let none = ahead_next u in omega (arith, none));
      others = λ k x u other at cur secure. (
          let none = ahead_next u in
          let two = and_left (runs u && is_unit_allowed scheduler home k u) _ secure in
          let placed : is_unit_placed scheduler kept home k u ≡ true = and_right (runs u && is_unit_allowed scheduler home k u) _ secure in
          let rest = and_left (is_unit (at_place kept k) u && has_core_bit home k) _ placed in
          let at_k : at_place kept k ≡ Some u = is_unit_same (at_place kept k) u (and_left (is_unit (at_place kept k) u) _ rest) in
          let then = placed_then k x u other at cur at_k in
          let placed2 : is_unit_placed scheduler kept_next home k u ≡ true = and_from (is_unit (at_place kept_next k) u && has_core_bit home k) _ (and_from (is_unit (at_place kept_next k) u) _ (ap (λ o. is_unit o u) then ∙ same_unit_refl u) (and_right (is_unit (at_place kept k) u) _ rest)) (and_right (runs u) _ two) in
          (and_from (runs u && is_unit_allowed scheduler home k u) _ two (keeps_next k u ∙ placed2), omega (arith, none)));
    }

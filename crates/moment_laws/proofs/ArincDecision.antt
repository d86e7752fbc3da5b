-- A decision in an ARINC 653 pool: the window's unit stays, and no other comes.
use Rattle.std.proofs.Common.{◌≡◌, ◌≤◌, ℕ, Bool, true, false, not, List, refl, arith, ap, cond, subst, sym, ◌∙◌, inl, inr}
use Rattle.std.specs.Prelude.{Option, Some, None, ◌&&◌, ◌||◌}
use Rattle.std.specs.List.{list_any}
use Rattle.std.proofs.lemmas.Bool.{false_from_ne_true, or_cases, and_from}
use Rattle.sched_base.specs.declared.UnitId.{UnitId}
use Rattle.sched_base.specs.declared.Cores.{Cores}
use Rattle.sched_model.specs.declared.machine.Machine.{Machine}
use Rattle.sched_model.specs.declared.state.Pool.{Pool}
use Rattle.sched_model.specs.declared.state.Domain.{Domain}
use Rattle.sched_model.specs.declared.state.Resource.{Resource}
use Rattle.sched_model.specs.declared.state.Scheduler.{Scheduler}
use Rattle.sched_model.specs.declared.state.Records.{Records}
use Rattle.sched_model.specs.declared.state.ArincRecords.{ArincRecords}
use Rattle.sched_model.specs.declared.state.Records.TheVariants.{ArincPool}
use Rattle.sched_model.specs.declared.ask.Ask.{Ask}
use Rattle.sched_model.specs.Places.{has_listed_unit, is_unit, same_unit}
use Rattle.sched_model.specs.State.{may_unit_run}
use Rattle.sched_model.specs.Arinc.{Window, current_window, current_window_unit}
use Rattle.sched_model.specs.EligibleUnits.{is_unit_allowed, is_unit_eligible}
use Rattle.sched_model.specs.Policy.{arinc_decision, window_choice}
use Rattle.sched_model.specs.Pool.{pool_core_set, core_ask}
use Rattle.sched_base.proofs.Bools.{and_left, and_right, or_more, clash}
use Rattle.sched_laws.proofs.Choices.{is_unit_same, at_unit}
use Rattle.sched_laws.proofs.Counts.{same_unit_refl}
use Rattle.moment_laws.specs.Stretches.{units}
use Rattle.moment_laws.specs.Turns.{keeps, ahead}
use Rattle.moment_laws.specs.GoodDecisions.{DecidesWell, SecureThen, decision, next, Standing}
use Rattle.moment_laws.proofs.Waiting.{any_after, any_has, less_waits}
use Rattle.sched_model.specs.Policy.{is_unit_better, has_better_waiting}
use Rattle.sched_model.specs.EligibleUnits.{may_have_core}
use Rattle.moment_laws.proofs.Tests.{or_later}

module _ (m : Machine) (t : ℕ) (queue : List UnitId) (affinity : List (Option (List Cores))) (arinc : ArincRecords) (domains : List (Option Domain)) (resources : List (Option Resource)) (r : ℕ) (c : Resource) where
  abbrev scheduler : Scheduler
  scheduler = record { queue = queue; affinity = affinity; records = ArincPool arinc }

  abbrev pool : Pool
  pool = record { scheduler = scheduler; domains = domains; resources = resources }

  abbrev home : ℕ
  home = pool_core_set pool

  abbrev ask : Ask
  ask = core_ask m.config.granularity t pool r c

  abbrev may : UnitId → Bool
  may u = (is_unit ask.cur u && ask.runnable) || (has_listed_unit queue u && is_unit_eligible scheduler home r t u)

  abbrev window : Option Window
  window = current_window arinc t

  unit_is : (w : Option Window) → (arinc_decision ask scheduler w).unit ≡ window_choice ask scheduler (elim w as (λ _. Option UnitId) [ None ↦ None | Some x ↦ x.unit ])
  unit_is None = refl
  unit_is (Some w) = refl

  records_are : (w : Option Window) → (arinc_decision ask scheduler w).records ≡ ArincPool arinc
  records_are None = refl
  records_are (Some w) = refl

  chosen_is : (o : Option UnitId) (w : UnitId) → window_choice ask scheduler o ≡ Some w → (o ≡ Some w) × (may w ≡ true)
  chosen_is None w is = absurd (cc)
  chosen_is (Some u) w is =
      elim (may u) as (λ b. may u ≡ b → cond b (Some u) None ≡ Some w → (Some u ≡ Some w) × (may w ≡ true)) [
        | true ↦ λ yes e. (e, (let same : u ≡ w = cc in subst (λ x. may x ≡ true) same yes))
        | false ↦ λ no e. absurd (cc)
      ] refl is

  records_next : (next m t pool r c).records ≡ ArincPool arinc
  records_next = records_are (cond c.leaving None window)

  unit_next : c.leaving ≡ false → (decision m t pool r c).unit ≡ window_choice ask scheduler (current_window_unit arinc t)
  unit_next stays = ap (λ b. (arinc_decision ask scheduler (cond b None window)).unit) stays ∙ unit_is window

  keeps_next : (k : ℕ) (u : UnitId) → keeps (next m t pool r c).records (next m t pool r c) home k t u ≡ is_unit (current_window_unit arinc t) u
  keeps_next k u = ap (λ (x : Records). keeps x (next m t pool r c) home k t u) records_next

  ahead_next : (u : UnitId) → ahead (next m t pool r c).records u ≡ 0
  ahead_next u = ap (λ (x : Records). ahead x u) records_next

  abbrev runs : UnitId → Bool
  runs u = may_unit_run m.config.granularity pool u

  eligible_next : (k : ℕ) (u : UnitId) → is_unit_eligible (next m t pool r c) home k t u ≡ is_unit_eligible scheduler home k t u
  eligible_next k u = ap (λ (x : Records). is_unit_allowed scheduler home k u && may_have_core x (next m t pool r c) home k t u) records_next

  better_next : (u w : UnitId) (since : ℕ) → is_unit_better (next m t pool r c).records u since t w ≡ not (same_unit w u)
  better_next u w since = ap (λ (x : Records). is_unit_better x u since t w) records_next

  fewer_next : (test : UnitId → Bool) → list_any test (next m t pool r c).queue ≡ true → list_any test queue ≡ true
  fewer_next test is = any_after test (decision m t pool r c).unit queue is

  -- nobody else is stirred
  others_stay : (k : ℕ) (x : Resource) → has_better_waiting x.cur x.since.0 t k home (next m t pool r c) ≡ true → has_better_waiting x.cur x.since.0 t k home scheduler ≡ true
  others_stay k x is =
      less_waits t k home x.since.0 x.cur scheduler (next m t pool r c) (λ u. refl) (λ u e. sym (eligible_next k u) ∙ e) (λ u w own e. sym (better_next u w x.since.0) ∙ e) fewer_next is

  module _ (standing : Standing m pool r c) (allowed : (u : UnitId) → is_unit_allowed scheduler home r u ≡ true) where
    secure_next : (u : UnitId) → runs u ≡ true → current_window_unit arinc t ≡ Some u → SecureThen m t pool r c r u
    secure_next u runs_u is = and_from (runs u && is_unit_allowed scheduler home r u) _ (and_from (runs u) _ runs_u (allowed u)) (keeps_next r u ∙ ap (λ o. is_unit o u) is ∙ same_unit_refl u)

    runs_chosen : (w : UnitId) → may w ≡ true → runs w ≡ true
    runs_chosen w is = elim (or_cases (is_unit ask.cur w && ask.runnable) (has_listed_unit queue w && is_unit_eligible scheduler home r t w) is) [
      | inl own ↦ (
          let cur : c.cur ≡ Some w = is_unit_same c.cur w (and_left (is_unit c.cur w) ask.runnable own) in
          sym (ap (λ (o : Option UnitId). elim o as (λ _. Bool) [ None ↦ false | Some u ↦ may_unit_run m.config.granularity pool u ]) cur) ∙ and_right (is_unit c.cur w) ask.runnable own)
      | inr waits ↦ at_unit (λ u. runs u ≡ true) w queue (and_left (has_listed_unit queue w) _ waits) standing.waits
    ]

    some_unit : (w : UnitId) → may w ≡ true → 1 ≤ units m
    some_unit w is = elim (or_cases (is_unit ask.cur w && ask.runnable) (has_listed_unit queue w && is_unit_eligible scheduler home r t w) is) [
      | inl own ↦ (standing.own w (is_unit_same c.cur w (and_left (is_unit c.cur w) ask.runnable own))).1
      | inr waits ↦ standing.counted w (and_left (has_listed_unit queue w) _ waits)
    ]

    -- the core's own unit, which is the window's, is not stirred; nor is a core that idles and has no unit that may have it
    own_stays : (u : UnitId) → c.cur ≡ Some u → current_window_unit arinc t ≡ Some u → has_better_waiting c.cur c.since.0 t r home (next m t pool r c) ≡ false
    own_stays u cur is = false_from_ne_true _ (λ stirred. (
        let old = others_stay r c stirred in
        let h : (not (is_unit_allowed scheduler home r u) || list_any (λ w. is_unit_eligible scheduler home r t w && not (same_unit w u)) queue) ≡ true = sym (ap (λ (o : Option UnitId). has_better_waiting o c.since.0 t r home scheduler) cur) ∙ old in
        elim (or_cases (not (is_unit_allowed scheduler home r u)) (list_any (λ w. is_unit_eligible scheduler home r t w && not (same_unit w u)) queue) h) [
          | inl barred ↦ clash (not (is_unit_allowed scheduler home r u)) barred (ap not (allowed u))
          | inr some ↦ (
              let w = any_has (λ w. is_unit_eligible scheduler home r t w && not (same_unit w u)) queue some in
              let same : u ≡ w.0 = (let e = is_unit_same (current_window_unit arinc t) w.0 (and_right (is_unit_allowed scheduler home r w.0) _ (and_left (is_unit_eligible scheduler home r t w.0) (not (same_unit w.0 u)) w.2)) in cc) in
              let other : not (same_unit w.0 u) ≡ true = and_right (is_unit_eligible scheduler home r t w.0) _ w.2 in
              let e : same_unit w.0 u ≡ true = subst (λ x. same_unit x u ≡ true) same (same_unit_refl u) in
              clash (not (same_unit w.0 u)) other (ap not e))
        ]))

    idle_stays : c.leaving ≡ false → c.cur ≡ None → (decision m t pool r c).unit ≡ None → has_better_waiting c.cur c.since.0 t r home (next m t pool r c) ≡ false
    idle_stays stays cur none = false_from_ne_true _ (λ stirred. (
        let old = others_stay r c stirred in
        let h : list_any (is_unit_eligible scheduler home r t) queue ≡ true = sym (ap (λ (o : Option UnitId). has_better_waiting o c.since.0 t r home scheduler) cur) ∙ old in
        let w = any_has (is_unit_eligible scheduler home r t) queue h in
        let is : current_window_unit arinc t ≡ Some w.0 = is_unit_same (current_window_unit arinc t) w.0 (and_right (is_unit_allowed scheduler home r w.0) _ w.2) in
        let waits : (has_listed_unit queue w.0 && is_unit_eligible scheduler home r t w.0) ≡ true = and_from _ _ w.1 w.2 in
        let can : may w.0 ≡ true = or_later (is_unit ask.cur w.0 && ask.runnable) waits in
        let chosen : (decision m t pool r c).unit ≡ Some w.0 = unit_next stays ∙ ap (window_choice ask scheduler) is ∙ ap (λ b. cond b (Some w.0) None) can in
        let e : None ≡ Some w.0 = sym none ∙ chosen in
        cc))

    pub arinc_well : DecidesWell m t pool r c
    arinc_well = record {
      leaves = λ goes. ap (λ b. (arinc_decision ask scheduler (cond b None window)).unit) goes;
      chosen = λ stays w is. (
          let a = chosen_is (current_window_unit arinc t) w (sym (unit_next stays) ∙ is) in
          let none = ahead_next w in
          let one = some_unit w a.1 in
          (secure_next w (runs_chosen w a.1) a.0, omega (arith, none, one)));
      kept = λ stays u cur secure. (
          let is : current_window_unit arinc t ≡ Some u = is_unit_same (current_window_unit arinc t) u (and_right (runs u && is_unit_allowed scheduler home r u) _ secure) in
          let runs_u = and_left (runs u) _ (and_left (runs u && is_unit_allowed scheduler home r u) _ secure) in
          let own : (is_unit ask.cur u && ask.runnable) ≡ true = and_from (is_unit c.cur u) ask.runnable (ap (λ o. is_unit o u) cur ∙ same_unit_refl u) (ap (λ (o : Option UnitId). elim o as (λ _. Bool) [ None ↦ false | Some x ↦ may_unit_run m.config.granularity pool x ]) cur ∙ runs_u) in
          let can : may u ≡ true = or_more _ _ own in
          let none = ahead_next u in (
            u,
            unit_next stays ∙ ap (window_choice ask scheduler) is ∙ ap (λ b. cond b (Some u) None) can,
            inl (refl, omega (arith, none), record { own = own_stays u cur is; others = λ k x other at stirred. others_stay k x stirred }),
          ));
      idle = λ stays cur none. record { own = idle_stays stays cur none; others = λ k x other at stirred. others_stay k x stirred };
      few = λ u. (let none = ahead_next u in omega (arith, none));
      others = λ k x u other at cur secure. (
          let none = ahead_next u in
          (and_from (runs u && is_unit_allowed scheduler home k u) _ (and_left (runs u && is_unit_allowed scheduler home k u) _ secure) (keeps_next k u ∙ and_right (runs u && is_unit_allowed scheduler home k u) _ secure), omega (arith, none)));
    }

-- Each event of the pool, and the look at its core after it, keeps the pace of the core.
use Rattle.std.proofs.Common.{◌≡◌, ◌<◌, ◌≤◌, ◌+◌, ◌-◌, ◌*◌, ◌/◌, ◌%◌, ℕ, Bool, true, false, not, refl, arith, subst, sym, ap, ◌∙◌, ◌⊎◌, inl, inr, length}
use Rattle.std.specs.Prelude.{Option, Some, None, option_map, is_none, slice_get, min, nat_lt, nat_le, ◌&&◌, ◌==◌}
use Rattle.std.specs.List.{list_any}
use Rattle.std.proofs.lemmas.Bool.{not-true, or_cases}
use Rattle.sched_base.specs.Numbers.{moment, core as core_number, has_moment_come}
use Rattle.sched_base.specs.Credit2Numbers.{slice_length, positive_part}
use Rattle.sched_base.specs.declared.Moment.{Moment}
use Rattle.sched_base.specs.declared.UnitId.{UnitId}
use Rattle.sched_base.proofs.Bools.{and_left, and_right, clash}
use Rattle.sched_model.specs.declared.action.Action.{Action}
use Rattle.sched_model.specs.declared.action.Action.TheVariants.{Wake, Block, Slice, Repl, Refill, Arrive, Decide, Leave, Save}
use Rattle.sched_model.specs.declared.ask.Ask.{Ask}
use Rattle.sched_model.specs.declared.machine.Machine.{Machine}
use Rattle.sched_model.specs.declared.state.Credit2Domain.{Credit2Domain}
use Rattle.sched_model.specs.declared.state.Credit2Records.{Credit2Records}
use Rattle.sched_model.specs.declared.state.Credit2Unit.{Credit2Unit}
use Rattle.sched_model.specs.declared.state.Doing.TheVariants.{Idle, Held}
use Rattle.sched_model.specs.declared.state.Pool.{Pool}
use Rattle.sched_model.specs.declared.state.Records.{Records}
use Rattle.sched_model.specs.declared.state.Records.TheVariants.{Credit2Pool}
use Rattle.sched_model.specs.declared.state.Resource.{Resource}
use Rattle.sched_model.specs.declared.state.Scheduler.{Scheduler}
use Rattle.sched_model.specs.Actions.{configured_units}
use Rattle.sched_model.specs.CheckedMachine.{IsChecked}
use Rattle.sched_model.specs.Credit2.{best_other_credit, chosen_slice, credit2_decision, credit2_decision_for, is_rate_limited, most_weight, own_burned_records}
use Rattle.sched_model.specs.EligibleUnits.{Decision, is_unit_allowed, is_unit_eligible}
use Rattle.sched_model.specs.Places.{at_place, change_at}
use Rattle.sched_model.specs.Policy.{decision_by, decision_of, has_better_waiting, is_unit_better}
use Rattle.sched_model.specs.Pool as pools
use Rattle.sched_model.specs.Pool.{after_decide, after_in, change_core, change_processor, change_vcpu, core_ask, decided_core, enabled_in, is_first_processor_up, pool_core_set, reconsidered_core, running_guest, same_choice, settled_pool, with_doing}
use Rattle.sched_model.specs.State.{may_unit_run, unit_runnable, vcpus_of_unit, is_awake}
use Rattle.sched_laws.specs.PoolFacts.{IfUnit}
use Rattle.sched_laws.proofs.Awake.{part_past}
use Rattle.sched_laws.proofs.Choices.{decision_has}
use Rattle.sched_laws.proofs.EachPlace.{at_place-change_at, at_place-change_each, at_place-put_at, by_cond, by_option, by_test, place_below}
use Rattle.sched_laws.proofs.Lists.{item_below, some-test_at}
use Rattle.sched_laws.proofs.OnePlace.{decided_cur}
use Rattle.sched_laws.proofs.SiblingsLaw.{some_processor}
use Rattle.moment_laws.proofs.AllowedAlone.{allowed_alone}
use Rattle.moment_laws.proofs.Waiting.{any_has}
use Rattle.undisturbed_laws.specs.Undisturbed.{Credit2DomainStays, Credit2Stays, PoolStays}
use Rattle.record_laws.proofs.Credit2Seen.{taken_records}
use Rattle.undisturbed_laws.proofs.Records.{c_taken}
use Rattle.undisturbed_laws.proofs.Units.{only_core}
use Rattle.share_laws.specs.Shares.{IsPlainCredit2}
use Rattle.share_laws.proofs.Decision.{chosen, unit_then}
use Rattle.share_laws.proofs.Numbers.{slice_least}
use Rattle.share_laws.proofs.Paced.{SeenFor, IsKnown, Paced, books_are, count_of, home_of, only, opened_pace, paced_block, paced_core, paced_processor, paced_replenish, paced_scheduler, paced_started, paced_vcpu, paced_wake, stopped_asleep, unit_low}

-- a slice is as long as the rate limit at least, where the unit has a record without a cap
slice_high : (ask : Ask) (scheduler : Scheduler) (books : Credit2Records) (w : UnitId) (d : Credit2Domain) (x : Credit2Unit) → at_place books.domains w.dom.0 ≡ Some d → d.cap ≡ 0 → slice_get d.units w.n ≡ Some x → books.limit * 1000 ≤ chosen_slice ask scheduler books w
slice_high ask scheduler books w d x at free get =
    by_option (λ k. books.limit * 1000 ≤ k) (at_place books.domains w.dom.0) 0 _ (λ none. absurd (cc))
    (λ e at2.
    let same : d ≡ e = cc in
    let get2 : slice_get e.units w.n ≡ Some x = subst (λ (y : Credit2Domain). slice_get y.units w.n ≡ Some x) same get in
    let free2 : e.cap ≡ 0 = subst (λ (y : Credit2Domain). y.cap ≡ 0) same free in
    by_option (λ k. books.limit * 1000 ≤ k) (slice_get e.units w.n) 0 _ (λ none. absurd (cc))
    (λ y get3.
    let long : ℕ = slice_length y.credit (best_other_credit ask scheduler books w) e.weight (most_weight books) (books.limit * 1000) in
    by_cond (λ k. books.limit * 1000 ≤ k) (e.cap == 0) long (min long (positive_part y.held)) (λ is. slice_least y.credit (best_other_credit ask scheduler books w) e.weight (most_weight books) (books.limit * 1000))
    (λ is. absurd (not_zero e.cap free2 is))))
  where
    not_zero : (n : ℕ) → n ≡ 0 → (n == 0) ≡ false → ⊥
    not_zero n zero_is is = grind (arith, zero_is, is)

module _ (m : Machine) (checked : IsChecked m) (i r rate : ℕ) (plain : IsPlainCredit2 m i r rate) (t : ℕ) (pool : Pool) (known : IsKnown m checked i r rate plain t pool) where
  abbrev P : Pool → Type 0
  P = Paced m checked i r rate plain t

  -- a decision
  module _ (here : P pool) where
    abbrev ask : Ask
    ask = core_ask m.config.granularity t pool r here.core

    abbrev books : Credit2Records
    books = (books_are m checked i r rate plain pool known.stays).0

    books_is : pool.scheduler.records ≡ Credit2Pool books
    books_is = (books_are m checked i r rate plain pool known.stays).1

    decision_is : decision_of ask pool.scheduler ≡ credit2_decision ask pool.scheduler books
    decision_is = ap (λ (rs : Records). decision_by rs ask pool.scheduler) books_is

    -- the chosen unit is runnable
    chosen_runs : (w : UnitId) → chosen ask pool.scheduler books ≡ Some w → may_unit_run m.config.granularity pool w ≡ true
    chosen_runs w is =
        let all : IfUnit (λ u. may_unit_run m.config.granularity pool u ≡ true) (decision_of ask pool.scheduler).unit =
        decision_has (λ u. may_unit_run m.config.granularity pool u ≡ true) ask pool.scheduler known.one.waits
        (λ u cur runs. subst (λ (o : Option UnitId). elim o as (λ _. Bool) [ None ↦ false | Some z ↦ may_unit_run m.config.granularity pool z ] ≡ true) cur runs) in
        subst (IfUnit (λ u. may_unit_run m.config.granularity pool u ≡ true)) (ap (λ (d : Decision). d.unit) decision_is ∙ unit_then ask pool.scheduler books ∙ is) all

    abbrev taken : UnitId → Credit2Records
    taken = taken_records ask books

    taken_stays : (w : UnitId) → Credit2Stays m i rate (taken w)
    taken_stays w = c_taken m i rate ask w books (books_are m checked i r rate plain pool known.stays).2

    slice_long : (w : UnitId) → chosen ask pool.scheduler books ≡ Some w → rate * 1000 ≤ chosen_slice ask pool.scheduler (taken w) w
    slice_long w is =
        let g : ℕ = m.config.granularity in
        let d = some-test_at pool.domains w.dom.0 (λ x. unit_runnable g x w.n) (chosen_runs w is) in
        let home = home_of m checked i r rate plain t pool known w d.0 d.1 in
        let within = part_past is_awake g (w.n * g) d.0.vcpus (and_right (not d.0.paused && is_none d.0.moving) (list_any is_awake (vcpus_of_unit g d.0 w.n)) d.2) in
        let same = count_of m checked i r rate plain t pool known home.0 d.0 home.2 in
        let low : w.n < configured_units g home.0 = unit_low g w.n (length home.0.guests) (some_processor g checked.config.granularity) (omega (arith, within, same)) in
        let own = (taken_stays w).domains.own w.dom.0 home.0 home.1 in
        let e : Credit2Domain = own.item in
        let stays : Credit2DomainStays g home.0 e = own.meets in
        let a = stays.params in
        let b = (plain.uncapped w.dom.0 home.0 home.1).1 in
        let free : e.cap ≡ 0 = cc in
        let count = stays.units in
        let x = item_below e.units w.n (omega (arith, low, count)) in
        subst (λ k. k * 1000 ≤ chosen_slice ask pool.scheduler (taken w) w) (taken_stays w).limit (slice_high ask pool.scheduler (taken w) w e x.0 own.at free x.1)

    paced_decide : P (after_decide m.config.granularity t r here.core pool)
    paced_decide =
        let d : Decision = decision_of (core_ask m.config.granularity t pool r here.core) pool.scheduler in
        let c : Resource = decided_core t d here.core in
        let due_is : c.due ≡ d.due = by_test (λ (x : Resource). x.due ≡ d.due) (same_choice d.unit here.core.cur) _ _ (λ is. refl) (λ is. refl) in
        let calm : c.pending ≡ false = by_test (λ (x : Resource). x.pending ≡ false) (same_choice d.unit here.core.cur) _ _ (λ is. refl) (λ is. refl) in
        let past : c.since.0 ≤ t = by_test (λ (x : Resource). x.since.0 ≤ t) (same_choice d.unit here.core.cur) _ _ (λ is. here.past) (λ is. omega arith) in
        record {
          core = c;
          has = at_place-put_at r c pool.resources (place_below pool.resources r here.core here.has);
          past = past;
          due_late = λ w due cur is. (
              let pick : chosen ask pool.scheduler books ≡ Some w = sym (unit_then ask pool.scheduler books) ∙ sym (ap (λ (x : Decision). x.unit) decision_is) ∙ sym (decided_cur t d here.core) ∙ cur in
              let slice : Some (moment (t + chosen_slice ask pool.scheduler (taken w) w)) ≡ Some due = sym (ap (λ (o : Option UnitId). (credit2_decision_for ask pool.scheduler (own_burned_records here.core.cur t books) o).due) pick) ∙ sym (ap (λ (x : Decision). x.due) decision_is) ∙ sym due_is ∙ is in
              let at : t + chosen_slice ask pool.scheduler (taken w) w ≡ due.0 = same_moment slice in
              let long = slice_long w pick in
              added c.since.0 (rate * 1000) (chosen_slice ask pool.scheduler (taken w) w) due.0 past long at);
          pends = λ w cur pending. absurd (clash c.pending pending calm);
        }
      where
        same_moment : {a : ℕ} {b : Moment} → Some (moment a) ≡ Some b → a ≡ b.0
        same_moment {a} {b} e = (let s : moment a ≡ b = cc in ap (λ (x : Moment). x.0) s)

        added : (since limit slice due : ℕ) → since ≤ t → limit ≤ slice → t + slice ≡ due → since + limit ≤ due
        added since limit slice due past long at = omega (arith, past, long, at)

  -- a slice ends
  paced_slice : (q : ℕ) → enabled_in m.config.granularity t pool (Slice (core_number q)) ≡ true → P pool → P (change_core q (λ c. record c { pending = true }) pool)
  paced_slice q on here =
      let core = some-test_at pool.resources q (λ c. has_moment_come t c.due && not c.pending && is_first_processor_up t c) on in
      let place : q ≡ r = only m checked i r rate plain t pool known q core.0 core.1 in
      let at_r : at_place pool.resources r ≡ Some core.0 = subst (λ k. at_place pool.resources k ≡ Some core.0) place core.1 in
      let has = here.has in
      let same : core.0 ≡ here.core = cc in
      let come : has_moment_come t here.core.due ≡ true = subst (λ (c : Resource). has_moment_come t c.due ≡ true) same (and_left (has_moment_come t core.0.due) (not core.0.pending) (and_left _ _ core.2)) in
      let f : Resource → Resource = λ c. record c { pending = true } in
      record {
        core = f here.core;
        has = ap (λ k. at_place (change_at k f pool.resources) r) place ∙ at_place-change_at r f pool.resources ∙ ap (option_map f) here.has;
        past = here.past;
        due_late = here.due_late;
        pends = λ w cur pending. inl (late w cur here.core.due refl come);
      }
    where
      late : (w : UnitId) → here.core.cur ≡ Some w → (o : Option Moment) → here.core.due ≡ o → has_moment_come t o ≡ true → here.core.since.0 + rate * 1000 ≤ t
      late w cur None is come = absurd (cc)
      late w cur (Some due) is come = (let a = here.due_late w due cur is in before (here.core.since.0 + rate * 1000) due.0 a come)
        where
          before : (a b : ℕ) → a ≤ b → nat_le b t ≡ true → a ≤ t
          before a b low come = grind (arith, low, come)

  -- each event
  pub paced_after : (action : Action) → SeenFor m checked i r rate plain t pool action → enabled_in m.config.granularity t pool action ≡ true → P pool → P (after_in m.config.granularity t pool action)
  paced_after (Wake v) seen on here = paced_wake m checked i r rate plain t v pool on here
  paced_after (Block p) seen on here = by_option P (running_guest m.config.granularity pool p.0) _ _ (λ is. here) (λ v is. paced_block m checked i r rate plain t pool known seen p.0 v is on here)
  paced_after (Slice q) seen on here = paced_slice q.0 on here
  paced_after (Repl u) seen on here = paced_replenish m checked i r rate plain t u pool known.stays here
  paced_after (Refill d) seen on here = paced_scheduler m checked i r rate plain t _ pool here
  paced_after (Arrive p) seen on here =
      by_option (λ (next : Pool). P (change_processor m.config.granularity p.0 (with_doing Held) next)) (running_guest m.config.granularity pool p.0) _ _ (λ is. paced_processor m checked i r rate plain t p.0 (with_doing Held) pool here)
      (λ v is. paced_processor m checked i r rate plain t p.0 (with_doing Held) (change_vcpu v (pools.stopped_vcpu t) pool)
      (paced_vcpu m checked i r rate plain t v (pools.stopped_vcpu t) pool (λ x e at asleep later. (e, stopped_asleep m checked i r rate plain t x ∙ asleep, later)) here))
  paced_after (Decide q) seen on here =
      by_option P (at_place pool.resources q.0) _ _ (λ is. here)
      (λ c is.
      let place : q.0 ≡ r = only m checked i r rate plain t pool known q.0 c is in
      let at_r : at_place pool.resources r ≡ Some c = subst (λ k. at_place pool.resources k ≡ Some c) place is in
      let has = here.has in
      let same : here.core ≡ c = cc in
      subst (λ k. P (after_decide m.config.granularity t k c pool)) (sym place) (subst (λ (x : Resource). P (after_decide m.config.granularity t r x pool)) same (paced_decide here)))
  paced_after (Leave p) seen on here =
      by_option P (at_place pool.resources (p.0 / m.config.granularity)) _ _ (λ is. here)
      (λ c is. by_option (λ (next : Pool). P (change_core (p.0 / m.config.granularity) pools.reopened_core next)) (pools.vcpu_to_run m.config.granularity pool c (p.0 % m.config.granularity)) _ _
      (λ none. paced_core m checked i r rate plain t (p.0 / m.config.granularity) pools.reopened_core (change_processor m.config.granularity p.0 (with_doing Idle) pool) (opened_pace m checked i r rate plain) (paced_processor m checked i r rate plain t p.0 (with_doing Idle) pool here))
      (λ v some. paced_core m checked i r rate plain t (p.0 / m.config.granularity) pools.reopened_core (pools.started_on m.config.granularity t p.0 v pool) (opened_pace m checked i r rate plain) (paced_started m checked i r rate plain t p.0 v pool here)))
  paced_after (Save q) seen on here =
      by_option P (at_place pool.resources q.0) _ _ (λ is. here)
      (λ c is. by_option P c.saving _ _ (λ none. here)
      (λ u some.
      let next : Pool = change_core q.0 pools.saved_core pool in
      let saved : P next = paced_core m checked i r rate plain t q.0 pools.saved_core pool (λ x. record { cur = refl; since = refl; due = refl; pending = refl }) here in
      by_cond P (may_unit_run m.config.granularity pool u) _ _ (λ runs. paced_scheduler m checked i r rate plain t _ next saved) (λ stops. saved)))
  paced_after action seen on here = here

module _ (m : Machine) (checked : IsChecked m) (i r rate : ℕ) (plain : IsPlainCredit2 m i r rate) (t : ℕ) (next : Pool) (stays : PoolStays m i plain.config (settled_pool t next)) where
  abbrev look : ℕ → Resource → Resource
  look = reconsidered_core t (pool_core_set next) next.scheduler

  alone : (q : ℕ) (c : Resource) → at_place next.resources q ≡ Some c → q ≡ r
  alone q c at = only_core m i r plain.config (settled_pool t next) stays plain.core q (look (0 + q) c) (at_place-change_each 0 q look next.resources ∙ ap (option_map (look (0 + q))) at)

  -- a core that a better unit makes pending ran for the rate limit
  better_late : (w : UnitId) (since : ℕ) (c : Resource) → at_place next.resources r ≡ Some c → since ≤ t → has_better_waiting (Some w) since t (0 + r) (pool_core_set next) next.scheduler ≡ true → since + rate * 1000 ≤ t
  better_late w since c has past better =
      let b = books_are m checked i r rate plain (settled_pool t next) stays in
      let allowed : is_unit_allowed next.scheduler (pool_core_set next) (0 + r) w ≡ true = (let e : r ≡ 0 + r = omega arith in subst (λ k. is_unit_allowed next.scheduler (pool_core_set next) k w ≡ true) e (allowed_alone next.scheduler next.resources r c has alone w)) in
      elim (or_cases (not (is_unit_allowed next.scheduler (pool_core_set next) (0 + r) w)) (list_any (λ u. is_unit_eligible next.scheduler (pool_core_set next) (0 + r) t u && is_unit_better next.scheduler.records w since t u) next.scheduler.queue) better) [
        | inl barred ↦ absurd (clash (is_unit_allowed next.scheduler (pool_core_set next) (0 + r) w) allowed (not-true (is_unit_allowed next.scheduler (pool_core_set next) (0 + r) w) barred))
        | inr some ↦ (
            let u = any_has (λ u. is_unit_eligible next.scheduler (pool_core_set next) (0 + r) t u && is_unit_better next.scheduler.records w since t u) next.scheduler.queue some in
            let more : is_unit_better (Credit2Pool b.0) w since t u.0 ≡ true = subst (λ (rs : Records). is_unit_better rs w since t u.0 ≡ true) b.1 (and_right (is_unit_eligible next.scheduler (pool_core_set next) (0 + r) t u.0) _ u.2) in
            let free : is_rate_limited b.0 since t ≡ false = not-true (is_rate_limited b.0 since t) (and_left (not (is_rate_limited b.0 since t)) _ more) in
            ran since (b.0.limit * 1000) (rate * 1000) past (ap (λ k. k * 1000) b.2.limit) free)
      ]
    where
      ran : (since limit rate : ℕ) → since ≤ t → limit ≡ rate → nat_lt (t - since) limit ≡ false → since + rate ≤ t
      ran since limit rate past same free = (let a : limit ≤ t - since = grind (arith, free) in omega (arith, past, same, a))

  pub paced_settled : Paced m checked i r rate plain t next → Paced m checked i r rate plain t (settled_pool t next)
  paced_settled here =
      let c : Resource = here.core in
      let d : Resource = look (0 + r) c in
      let cur : d.cur ≡ c.cur = by_cond (λ (x : Resource). x.cur ≡ c.cur) c.leaving c _ (λ is. refl) (λ is. refl) in
      let since : d.since ≡ c.since = by_cond (λ (x : Resource). x.since ≡ c.since) c.leaving c _ (λ is. refl) (λ is. refl) in
      let due : d.due ≡ c.due = by_cond (λ (x : Resource). x.due ≡ c.due) c.leaving c _ (λ is. refl) (λ is. refl) in
      let pending : d.pending ≡ true → (c.pending ≡ true) ⊎ (has_better_waiting c.cur c.since.0 t (0 + r) (pool_core_set next) next.scheduler ≡ true) =
      by_cond (λ (x : Resource). x.pending ≡ true → (c.pending ≡ true) ⊎ (has_better_waiting c.cur c.since.0 t (0 + r) (pool_core_set next) next.scheduler ≡ true)) c.leaving c _ (λ is p. inl p) (λ is p. or_cases c.pending _ p) in
      record {
        core = d;
        has = at_place-change_each 0 r look next.resources ∙ ap (option_map (look (0 + r))) here.has;
        past = subst (λ (k : Moment). k.0 ≤ t) (sym since) here.past;
        due_late = λ w at own is. subst (λ (k : Moment). k.0 + rate * 1000 ≤ at.0) (sym since) (here.due_late w at (sym cur ∙ own) (sym due ∙ is));
        pends = λ w own p. (
            let own_c : c.cur ≡ Some w = sym cur ∙ own in
            elim (pending p) [
              | inl was ↦ elim (here.pends w own_c was) [ inl late ↦ inl (subst (λ (k : Moment). k.0 + rate * 1000 ≤ t) (sym since) late) | inr gone ↦ inr gone ]
              | inr better ↦ inl (subst (λ (k : Moment). k.0 + rate * 1000 ≤ t) (sym since)
                  (better_late w c.since.0 c here.has here.past (subst (λ (o : Option UnitId). has_better_waiting o c.since.0 t (0 + r) (pool_core_set next) next.scheduler ≡ true) own_c better)))
            ]);
      }

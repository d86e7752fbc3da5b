-- A decision in an RTDS pool whose core ends no leg of an earlier moment: every unit keeps its key, and the core's own unit is lost to a better one alone.
use Rattle.std.proofs.Common.{◌≡◌, ◌≤◌, ◌+◌, ℕ, Bool, true, false, not, List, [], refl, arith, ap, cond, subst, sym, ◌∙◌, ◌⊎◌, inl, inr}
use Rattle.std.specs.Prelude.{Option, Some, None, ◌&&◌, ◌||◌, nat_lt}
use Rattle.std.specs.List.{list_any}
use Rattle.std.proofs.lemmas.Bool.{false_from_ne_true, or_cases, and_from}
use Rattle.sched_base.specs.declared.UnitId.{UnitId}
use Rattle.sched_base.specs.declared.Cores.{Cores}
use Rattle.sched_model.specs.declared.machine.Machine.{Machine}
use Rattle.sched_model.specs.declared.state.Pool.{Pool}
use Rattle.sched_model.specs.declared.state.Domain.{Domain}
use Rattle.sched_model.specs.declared.state.Resource.{Resource}
use Rattle.sched_model.specs.declared.state.RtdsUnit.{RtdsUnit}
use Rattle.sched_model.specs.declared.state.Scheduler.{Scheduler}
use Rattle.sched_model.specs.declared.state.Records.{Records}
use Rattle.sched_model.specs.declared.state.Records.TheVariants.{RtdsPool}
use Rattle.sched_model.specs.declared.ask.Ask.{Ask}
use Rattle.sched_model.specs.Places.{has_listed_unit}
use Rattle.sched_model.specs.State.{may_unit_run}
use Rattle.sched_model.specs.EligibleUnits.{is_unit_allowed, is_unit_eligible, may_have_core, eligible_units as eligible, rtds_unit_at}
use Rattle.sched_model.specs.Rtds as rtds
use Rattle.sched_model.specs.Rtds.{is_unit_before, unit_left_budget, first_of_units, unit_burned_to}
use Rattle.sched_model.specs.Policy.{is_unit_better, has_better_waiting}
use Rattle.sched_model.specs.Pool.{pool_core_set, core_ask}
use Rattle.sched_base.proofs.Bools.{and_left, and_right, clash}
use Rattle.sched_laws.proofs.Choices.{at_unit}
use Rattle.sched_laws.specs.Counts.{total}
use Rattle.record_laws.proofs.Best.{is_best, none_best}
use Rattle.record_laws.proofs.Orders.{before_order, foremost_scan}
use Rattle.moment_laws.specs.Stretches.{units}
use Rattle.moment_laws.specs.Turns.{how_many, ahead}
use Rattle.moment_laws.specs.GoodDecisions.{DecidesWell, StirsNone, Secure, SecureThen, decision, next, Standing}
use Rattle.moment_laws.proofs.Waiting.{any_after, any_has, less_waits, filter_has, has_filter}
use Rattle.moment_laws.proofs.RtdsKeys.{Key, key, keys, Keys, key_at, keys_change, both_before, before_is, left_is, passes_is, ahead_is, keys_before, fewer_before, some_behind, before_most}
use Rattle.moment_laws.specs.Turns as turns

module _ (m : Machine) (t : ℕ) (queue : List UnitId) (affinity : List (Option (List Cores))) (xs : List (Option (List RtdsUnit))) (domains : List (Option Domain)) (resources : List (Option Resource)) (r : ℕ) (c : Resource) where
  abbrev scheduler : Scheduler
  scheduler = record { queue = queue; affinity = affinity; records = RtdsPool xs }

  abbrev pool : Pool
  pool = record { scheduler = scheduler; domains = domains; resources = resources }

  abbrev home : ℕ
  home = pool_core_set pool

  abbrev ask : Ask
  ask = core_ask m.config.granularity t pool r c

  abbrev runs : UnitId → Bool
  runs u = may_unit_run m.config.granularity pool u

  abbrev burned : List (Option (List RtdsUnit))
  burned = rtds.own_burned_domains c.cur t xs

  abbrev chosen : Option UnitId
  chosen = rtds.rtds_choice ask scheduler burned

  abbrev own : Option UnitId
  own = rtds.rtds_candidate ask scheduler burned

  abbrev waiting : List UnitId
  waiting = eligible (record scheduler { records = RtdsPool burned }) home r t

  -- the units after the decision
  abbrev then : Option UnitId → List (Option (List RtdsUnit))
  then choice = elim choice as (λ _. List (Option (List RtdsUnit))) [ None ↦ rtds.off_domains c.cur burned | Some u ↦ rtds.running_domains (Some t) u (rtds.off_domains c.cur burned) ]

  decide_records : (choice : Option UnitId) → (rtds.rtds_decision_for ask burned choice).records ≡ RtdsPool (then choice)
  decide_records None = refl
  decide_records (Some u) = refl

  decide_unit : (choice : Option UnitId) → (rtds.rtds_decision_for ask burned choice).unit ≡ choice
  decide_unit None = refl
  decide_unit (Some u) = refl

  records_next : (next m t pool r c).records ≡ RtdsPool (then chosen)
  records_next = decide_records chosen

  unit_next : (decision m t pool r c).unit ≡ chosen
  unit_next = decide_unit chosen

  -- the core's own unit has its key still when it is charged; the machine has as many units as there are records
  module _ (standing : Standing m pool r c) (still : (u : UnitId) (x : RtdsUnit) → c.cur ≡ Some u → rtds_unit_at xs u ≡ Some x → key (unit_burned_to t x) ≡ key x) (count : total (λ (ks : List Key). how_many (λ k. true) ks) (keys xs) ≤ units m) where
    abbrev ks : Keys
    ks = keys xs

    burned_keys : keys burned ≡ ks
    burned_keys = by_cur c.cur refl
      where
        by_cur : (cur : Option UnitId) → c.cur ≡ cur → keys (rtds.own_burned_domains cur t xs) ≡ ks
        by_cur None is = refl
        by_cur (Some u) is = keys_change u (unit_burned_to t) xs (λ x at. still u x is at)

    off_keys : (cur : Option UnitId) → keys (rtds.off_domains cur burned) ≡ keys burned
    off_keys None = refl
    off_keys (Some u) = keys_change u (λ x. record x { burned = None }) burned (λ x at. refl)

    then_keys : (choice : Option UnitId) → keys (then choice) ≡ ks
    then_keys None = off_keys c.cur ∙ burned_keys
    then_keys (Some u) = keys_change u (λ x. record x { burned = Some t }) (rtds.off_domains c.cur burned) (λ x at. refl) ∙ off_keys c.cur ∙ burned_keys

    -- what depends on keys alone is as it was
    before_same : (a b : List (Option (List RtdsUnit))) → keys a ≡ keys b → (u w : UnitId) → is_unit_before a u w ≡ is_unit_before b u w
    before_same a b same u w = before_is a u w ∙ ap (λ k. both_before (key_at k u) (key_at k w)) same ∙ sym (before_is b u w)

    left_same : (a b : List (Option (List RtdsUnit))) → keys a ≡ keys b → (u : UnitId) → unit_left_budget a u ≡ unit_left_budget b u
    left_same a b same u = left_is a u ∙ ap (λ k. elim (key_at k u) as (λ _. ℕ) [ None ↦ 0 | Some x ↦ x.2 ]) same ∙ sym (left_is b u)

    ahead_same : (a b : List (Option (List RtdsUnit))) → keys a ≡ keys b → (u : UnitId) → ahead (RtdsPool a) u ≡ ahead (RtdsPool b) u
    ahead_same a b same u = ahead_is a u ∙ ap (λ k. keys_before (key_at k u) k) same ∙ sym (ahead_is b u)

    ahead_next : (u : UnitId) → ahead (next m t pool r c).records u ≡ ahead (RtdsPool xs) u
    ahead_next u = ap (λ (y : Records). ahead y u) records_next ∙ ahead_same (then chosen) xs (then_keys chosen) u

    keeps_next : (k : ℕ) (u : UnitId) → turns.keeps (next m t pool r c).records (next m t pool r c) home k t u ≡ nat_lt 0 (unit_left_budget xs u)
    keeps_next k u = ap (λ (y : Records). turns.keeps y (next m t pool r c) home k t u) records_next ∙ ap (nat_lt 0) (left_same (then chosen) xs (then_keys chosen) u)

    eligible_burned : (k : ℕ) (u : UnitId) → is_unit_eligible (record scheduler { records = RtdsPool burned }) home k t u ≡ is_unit_eligible scheduler home k t u
    eligible_burned k u = ap (λ b. is_unit_allowed scheduler home k u && b) (passes_is burned (record scheduler { records = RtdsPool burned }) home k t u ∙ ap (nat_lt 0) (left_same burned xs burned_keys u) ∙ sym (passes_is xs scheduler home k t u))

    eligible_next : (k : ℕ) (u : UnitId) → is_unit_eligible (next m t pool r c) home k t u ≡ is_unit_eligible scheduler home k t u
    eligible_next k u =
        ap (λ (y : Records). is_unit_allowed scheduler home k u && may_have_core y (next m t pool r c) home k t u) records_next
        ∙ ap (λ b. is_unit_allowed scheduler home k u && b) (passes_is (then chosen) (next m t pool r c) home k t u ∙ ap (nat_lt 0) (left_same (then chosen) xs (then_keys chosen) u) ∙ sym (passes_is xs scheduler home k t u))

    better_next : (u w : UnitId) (since : ℕ) → is_unit_better (next m t pool r c).records u since t w ≡ is_unit_before xs w u
    better_next u w since = ap (λ (y : Records). is_unit_better y u since t w) records_next ∙ before_same (then chosen) xs (then_keys chosen) w u

    others_stay : (k : ℕ) (x : Resource) → has_better_waiting x.cur x.since.0 t k home (next m t pool r c) ≡ true → has_better_waiting x.cur x.since.0 t k home scheduler ≡ true
    others_stay k x is =
        less_waits t k home x.since.0 x.cur scheduler (next m t pool r c) (λ u. refl) (λ u e. sym (eligible_next k u) ∙ e) (λ u w own e. sym (better_next u w x.since.0) ∙ e)
        (λ test e. any_after test (decision m t pool r c).unit queue e) is

    -- the choice of a core that is not leaving
    chosen_is : c.leaving ≡ false → chosen ≡ first_of_units burned own waiting
    chosen_is stays = ap (λ b. cond b None (first_of_units burned own waiting)) stays

    -- a unit of those that may run
    abbrev May : UnitId → Type 0
    May w = (runs w ≡ true) × (is_unit_allowed scheduler home r w ≡ true) × (nat_lt 0 (unit_left_budget xs w) ≡ true) × (1 ≤ units m)

    own_may : (w : UnitId) → own ≡ Some w → (c.cur ≡ Some w) × May w
    own_may w is = by_cur c.cur refl is
      where
        by_cur : (cur : Option UnitId) → c.cur ≡ cur → elim cur as (λ _. Option UnitId) [ None ↦ None | Some u ↦ cond (ask.runnable && is_unit_allowed scheduler home r u && nat_lt 0 (unit_left_budget burned u)) (Some u) None ] ≡ Some w → (c.cur ≡ Some w) × May w
        by_cur None cur e = absurd (cc)
        by_cur (Some u) cur e =
            elim (ask.runnable && is_unit_allowed scheduler home r u && nat_lt 0 (unit_left_budget burned u)) as (λ b. (ask.runnable && is_unit_allowed scheduler home r u && nat_lt 0 (unit_left_budget burned u)) ≡ b → cond b (Some u) None ≡ Some w → (c.cur ≡ Some w) × May w) [
              | true ↦ λ yes h. (
                  let same : u ≡ w = cc in
                  let two = and_left (ask.runnable && is_unit_allowed scheduler home r u) _ yes in
                  let run : runs u ≡ true = sym (ap (λ (o : Option UnitId). elim o as (λ _. Bool) [ None ↦ false | Some x ↦ may_unit_run m.config.granularity pool x ]) cur) ∙ and_left ask.runnable _ two in
                  let left : nat_lt 0 (unit_left_budget xs u) ≡ true = ap (nat_lt 0) (sym (left_same burned xs burned_keys u)) ∙ and_right (ask.runnable && is_unit_allowed scheduler home r u) _ yes in
                  subst (λ x. (c.cur ≡ Some x) × May x) same (cur, (run, and_right ask.runnable _ two, left, (standing.own u cur).1)))
              | false ↦ λ no h. absurd (cc)
            ] refl e

    waiting_may : (w : UnitId) → has_listed_unit waiting w ≡ true → May w
    waiting_may w has =
        let h = has_filter (is_unit_eligible (record scheduler { records = RtdsPool burned }) home r t) queue w has in
        let e : is_unit_eligible scheduler home r t w ≡ true = sym (eligible_burned r w) ∙ h.1 in
        (at_unit (λ u. runs u ≡ true) w queue h.0 standing.waits, and_left (is_unit_allowed scheduler home r w) _ e, sym (passes_is xs scheduler home r t w) ∙ and_right (is_unit_allowed scheduler home r w) _ e, standing.counted w h.0)

    chosen_may : (w : UnitId) → first_of_units burned own waiting ≡ Some w → May w
    chosen_may w is = elim (is_best (before_order burned) (foremost_scan burned) own waiting w is).source [ inl e ↦ (own_may w e).1 | inr has ↦ waiting_may w has ]

    secure_next : (k : ℕ) (w : UnitId) → runs w ≡ true → is_unit_allowed scheduler home k w ≡ true → nat_lt 0 (unit_left_budget xs w) ≡ true → SecureThen m t pool r c k w
    secure_next k w run allowed left = and_from (runs w && is_unit_allowed scheduler home k w) _ (and_from (runs w) _ run allowed) (keeps_next k w ∙ left)

    -- a unit with a budget left has a record, so not all run before it
    behind : (w : UnitId) → nat_lt 0 (unit_left_budget xs w) ≡ true → ahead (RtdsPool xs) w + 1 ≤ units m
    behind w left = by_key (key_at ks w) refl
      where
        by_key : (o : Option Key) → key_at ks w ≡ o → ahead (RtdsPool xs) w + 1 ≤ units m
        by_key None is = absurd (let z : unit_left_budget xs w ≡ 0 = left_is xs w ∙ ap (λ o. elim o as (λ _. ℕ) [ None ↦ 0 | Some x ↦ x.2 ]) is in clash (nat_lt 0 (unit_left_budget xs w)) left (ap (nat_lt 0) z))
        by_key (Some k) is = (
            let a = some_behind ks w k is in
            let b : ahead (RtdsPool xs) w ≡ keys_before (Some k) ks = ahead_is xs w ∙ ap (λ o. keys_before o ks) is in
            omega (arith, a, b, count))

    -- before which unit waits none that may have the core
    none_stirred : (u : UnitId) → c.cur ≡ Some u → is_unit_allowed scheduler home r u ≡ true → ((e : UnitId) → has_listed_unit waiting e ≡ true → is_unit_before burned e u ≡ false) → has_better_waiting c.cur c.since.0 t r home scheduler ≡ false
    none_stirred u cur allowed least =
        ap (λ (o : Option UnitId). has_better_waiting o c.since.0 t r home scheduler) cur
        ∙ false_from_ne_true (not (is_unit_allowed scheduler home r u) || list_any (λ w. is_unit_eligible scheduler home r t w && is_unit_before xs w u) queue) (λ is. elim (or_cases (not (is_unit_allowed scheduler home r u)) (list_any (λ w. is_unit_eligible scheduler home r t w && is_unit_before xs w u) queue) is) [
          | inl barred ↦ clash (not (is_unit_allowed scheduler home r u)) barred (ap not allowed)
          | inr some ↦ (
              let w = any_has (λ w. is_unit_eligible scheduler home r t w && is_unit_before xs w u) queue some in
              let waits = filter_has (is_unit_eligible (record scheduler { records = RtdsPool burned }) home r t) queue w.0 w.1 (eligible_burned r w.0 ∙ and_left (is_unit_eligible scheduler home r t w.0) _ w.2) in
              clash (is_unit_before xs w.0 u) (and_right (is_unit_eligible scheduler home r t w.0) _ w.2) (before_same xs burned (sym burned_keys) w.0 u ∙ least w.0 waits))
        ])

    stirs_none : has_better_waiting c.cur c.since.0 t r home scheduler ≡ false → StirsNone m t pool r c
    stirs_none none = record {
      own = false_from_ne_true _ (λ is. clash (has_better_waiting c.cur c.since.0 t r home scheduler) (others_stay r c is) none);
      others = λ k x other at stirred. others_stay k x stirred;
    }

    own_secure : (u : UnitId) → c.cur ≡ Some u → Secure m t pool r c r u → own ≡ Some u
    own_secure u cur secure =
        let two = and_left (runs u && is_unit_allowed scheduler home r u) _ secure in
        let run : ask.runnable ≡ true = ap (λ (o : Option UnitId). elim o as (λ _. Bool) [ None ↦ false | Some x ↦ may_unit_run m.config.granularity pool x ]) cur ∙ and_left (runs u) _ two in
        let left : nat_lt 0 (unit_left_budget burned u) ≡ true = ap (nat_lt 0) (left_same burned xs burned_keys u) ∙ and_right (runs u && is_unit_allowed scheduler home r u) _ secure in
        let goes_on : (ask.runnable && is_unit_allowed scheduler home r u && nat_lt 0 (unit_left_budget burned u)) ≡ true = and_from (ask.runnable && is_unit_allowed scheduler home r u) _ (and_from ask.runnable _ run (and_right (runs u) _ two)) left in
        ap (λ (o : Option UnitId). elim o as (λ _. Option UnitId) [ None ↦ None | Some w ↦ cond (ask.runnable && is_unit_allowed scheduler home r w && nat_lt 0 (unit_left_budget burned w)) (Some w) None ]) cur ∙ ap (λ b. cond b (Some u) None) goes_on

    kept_by : c.leaving ≡ false → (u : UnitId) → c.cur ≡ Some u → Secure m t pool r c r u → (o : Option UnitId) → first_of_units burned own waiting ≡ o
        → (w : UnitId) × ((decision m t pool r c).unit ≡ Some w) × (((w ≡ u) × (ahead (next m t pool r c).records u ≤ ahead scheduler.records u) × StirsNone m t pool r c) ⊎ (ahead (next m t pool r c).records w + 1 ≤ ahead scheduler.records u))
    kept_by stays u cur secure None is = absurd (let e : Some u ≡ None = sym (own_secure u cur secure) ∙ (none_best (before_order burned) (foremost_scan burned) own waiting is).0 in cc)
    kept_by stays u cur secure (Some w) is =
        let f = is_best (before_order burned) (foremost_scan burned) own waiting w is in
        let allowed = and_right (runs u) _ (and_left (runs u && is_unit_allowed scheduler home r u) _ secure) in (
          w,
          unit_next ∙ chosen_is stays ∙ is,
          elim (f.over u (own_secure u cur secure)) [
            | inl e ↦ inl (e, (let a = ahead_next u in omega (arith, a)), stirs_none (none_stirred u cur allowed (λ x has. subst (λ y. is_unit_before burned x y ≡ false) e (f.none_better x has))))
            | inr before ↦ inr (
                let b : both_before (key_at ks w) (key_at ks u) ≡ true = sym (before_is xs w u) ∙ before_same xs burned (sym burned_keys) w u ∙ before in
                let fewer = fewer_before ks u w b in
                let x = ahead_next w in
                let y = ahead_is xs w in
                let z = ahead_is xs u in
                omega (arith, fewer, x, y, z))
          ],
        )

    pub rtds_well : DecidesWell m t pool r c
    rtds_well = record {
      leaves = λ goes. unit_next ∙ ap (λ b. cond b None (first_of_units burned own waiting)) goes;
      chosen = λ stays w is. (
          let may = chosen_may w (sym (chosen_is stays) ∙ sym unit_next ∙ is) in
          let a = ahead_next w in
          let b = behind w may.2 in
          (secure_next r w may.0 may.1 may.2, omega (arith, a, b)));
      kept = λ stays u cur secure. kept_by stays u cur secure (first_of_units burned own waiting) refl;
      idle = λ stays cur none. (
          let empty : waiting ≡ [] = (none_best (before_order burned) (foremost_scan burned) own waiting (sym (chosen_is stays) ∙ sym unit_next ∙ none)).1 in
          stirs_none (ap (λ (o : Option UnitId). has_better_waiting o c.since.0 t r home scheduler) cur ∙ false_from_ne_true (list_any (is_unit_eligible scheduler home r t) queue) (λ is. (
          let w = any_has (is_unit_eligible scheduler home r t) queue is in
          let waits = filter_has (is_unit_eligible (record scheduler { records = RtdsPool burned }) home r t) queue w.0 w.1 (eligible_burned r w.0 ∙ w.2) in
          clash (has_listed_unit waiting w.0) waits (ap (λ l. has_listed_unit l w.0) empty)))));
      few = λ u. (let a = ahead_next u in let b = ahead_is xs u in let d = before_most (key_at ks u) ks in omega (arith, a, b, d, count));
      others = λ k x u other at cur secure. (
          let two = and_left (runs u && is_unit_allowed scheduler home k u) _ secure in
          let a = ahead_next u in
          (secure_next k u (and_left (runs u) _ two) (and_right (runs u) _ two) (and_right (runs u && is_unit_allowed scheduler home k u) _ secure), omega (arith, a)));
    }

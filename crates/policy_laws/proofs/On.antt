-- Which units are on, by the records: where a core decides, and where cores and domains come and go.
use Rattle.sched_base.specs.Numbers.{core, domain as domain_number}
use Rattle.std.proofs.Common.{◌≡◌, ◌≢◌, ◌≤◌, ℕ, Bool, true, false, List, refl, arith, subst, sym, ◌∙◌, ap, inl, inr}
use Rattle.std.specs.Prelude.{Option, Some, None, is_some, not, slice_get, ◌&&◌}
use Rattle.std.specs.Option.{ForSome}
use Rattle.std.proofs.Math.Decide.{ℕ_discrete}
use Rattle.std.proofs.lemmas.Bool.{or_right as or_second, or_cases, not-true, and_from}
use Rattle.sched_base.specs.declared.Moment.{Moment}
use Rattle.sched_base.specs.declared.UnitId.{UnitId}
use Rattle.sched_model.specs.declared.action.Action.TheVariants.{Moved, DomMoved}
use Rattle.sched_model.specs.declared.config.DomParams.{DomParams}
use Rattle.sched_model.specs.declared.config.PoolParams.{PoolParams}
use Rattle.sched_model.specs.declared.config.PoolParams.TheVariants as pool_params
use Rattle.sched_model.specs.declared.state.Credit2Domain.{Credit2Domain}
use Rattle.sched_model.specs.declared.state.RtdsUnit.{RtdsUnit}
use Rattle.sched_model.specs.declared.state.Domain.{Domain}
use Rattle.sched_model.specs.declared.state.Resource.{Resource}
use Rattle.sched_model.specs.declared.state.Records.{Records}
use Rattle.sched_model.specs.declared.state.Pool.{Pool}
use Rattle.sched_model.specs.Places.{at_place, put_at, clear_at, change_at, is_unit}
use Rattle.sched_model.specs.State.{may_unit_run}
use Rattle.sched_model.specs.EligibleUnits.{Decision}
use Rattle.sched_model.specs.Opening.{joined_core}
use Rattle.sched_model.specs.Policy.{decision_of, empty_records}
use Rattle.sched_model.specs.Pool as pools
use Rattle.sched_model.specs.Pool.{core_ask, change_core, unit_core, decided_core, enabled_in, is_domain_unit, domain_unit_count, pool_without_domain}
use Rattle.sched_laws.specs.EachPlace.{EachPlace}
use Rattle.sched_laws.proofs.EachPlace.{EachPlace-change_at, EachPlace-put_at, EachPlace-clear_at, place_below, at_place-put_at, at_place-put_at_other, at_place-clear_at_other, by_cond, at_place-replicate}
use Rattle.sched_laws.proofs.Choices.{is_unit_same}
use Rattle.sched_laws.proofs.Counts.{total_two}
use Rattle.sched_laws.specs.Counts.{one_at}
use Rattle.sched_laws.proofs.OnePlace.{one_same, decided_cur}
use Rattle.sched_laws.specs.PoolFacts.{core_places, places}
use Rattle.sched_base.proofs.Bools.{and_left, and_right, clash, or_left, or_more}
use Rattle.state_ranges.specs.Counts.{KeepsPool}
use Rattle.sched_ops.specs.Conditions.{is_member, is_on, may_unit_be_on}
use Rattle.policy_laws.specs.Holds.{HasMembers, HasMember, AreOn}
use Rattle.policy_laws.proofs.RunningLaw as running
use Rattle.policy_laws.specs.RunningUnits.{keeps_records, has_record, is_on_after}
use Rattle.policy_laws.proofs.Alike.{alike_change_at, alike_is, core_found, found_core, may_is, may_same}
use Rattle.policy_laws.proofs.Members.{joined, member_elsewhere, member_recorded}
use Rattle.policy_laws.proofs.Units.{goes_empty, none_of_domain, other_domain}
use Rattle.sched_laws.proofs.Counts.{is_that_unit}

-- a unit is on where it may be, as far as the scheduler keeps records
may_of : (records : Records) (u : UnitId) → (keeps_records records ≡ true → is_on records u ≡ true) → may_unit_be_on records u ≡ true
may_of records u on =
    may_is records u
    ∙ elim (keeps_records records) as (λ k. keeps_records records ≡ k → elim k as (λ _. Bool) [ true ↦ is_on records u | false ↦ true ] ≡ true) [ true ↦ λ is. on is | false ↦ λ is. refl ] refl

on_of : (records : Records) (u : UnitId) → keeps_records records ≡ true → may_unit_be_on records u ≡ true → is_on records u ≡ true
on_of records u keeps may = sym (ap (λ (k : Bool). elim k as (λ _. Bool) [ true ↦ is_on records u | false ↦ true ]) keeps) ∙ sym (may_is records u) ∙ may

module _ (g : ℕ) (t r : ℕ) (c : Resource) (pool : Pool) (at : at_place pool.resources r ≡ Some c) where
  -- two cores have no unit in common
  not_shared : ((u : UnitId) → places pool u ≤ 1) → (k : ℕ) (x : Resource) (u : UnitId) → k ≢ r → at_place pool.resources k ≡ Some x → x.cur ≡ Some u → is_unit c.cur u ≡ false
  not_shared most k x u other at_k is =
      elim (is_unit c.cur u) as (λ b. is_unit c.cur u ≡ b → b ≡ false) [
        | true ↦ λ own. absurd (
            let two = total_two (core_places u) k r x c pool.resources other at_k at in
            let a : one_at u x.cur ≡ 1 = ap (one_at u) is ∙ one_same u in
            let b : one_at u c.cur ≡ 1 = ap (one_at u) (is_unit_same c.cur u own) ∙ one_same u in
            let m = most u in
            omega (arith, two, a, b, m))
        | false ↦ λ own. refl
      ] refl

  pub on_decide : ((u : UnitId) → places pool u ≤ 1) → HasMembers g pool → KeepsPool g pool
      → ForSome (decision_of (core_ask g t pool r c) pool.scheduler).unit (λ u. is_member pool.scheduler u ≡ true) → AreOn pool → AreOn (pools.after_decide g t r c pool)
  on_decide most has keeps chosen on =
      let ask = core_ask g t pool r c in
      let decision : Decision = decision_of ask pool.scheduler in
      let next : Pool = pools.after_decide g t r c pool in
      let old : Records = pool.scheduler.records in
      let kind : keeps_records decision.records ≡ keeps_records old = running.decides_kind ask pool.scheduler in
      let is_now : (w : UnitId) → is_on decision.records w ≡ is_on_after ask decision old w = running.decides ask pool.scheduler in
      let now : Resource = decided_core t decision c in
      let at_now : at_place (put_at r now pool.resources) r ≡ Some now = at_place-put_at r now pool.resources (place_below pool.resources r c at) in
      record {
        own = λ k x at_k u is. may_of decision.records u (λ recorded. is_now u ∙ elim (ℕ_discrete k r) [
          | yes same ↦
              let x_is : now ≡ x = (let e : at_place (put_at r now pool.resources) r ≡ Some x = subst (λ (j : ℕ). at_place (put_at r now pool.resources) j ≡ Some x) same at_k in cc) in
              let unit : decision.unit ≡ Some u = sym (decided_cur t decision c) ∙ ap (λ (d : Resource). d.cur) x_is ∙ is in
              let found = member_recorded g pool u has keeps (chosen u unit) in
              or_more (is_unit decision.unit u && has_record old u) (is_on old u && not (is_unit c.cur u))
              (and_from (is_unit decision.unit u) (has_record old u) (is_that_unit decision.unit u unit) (running.recorded old u found.0 found.1 found.2 ∙ sym kind ∙ recorded))
          | no other ↦
              let at_old : at_place pool.resources k ≡ Some x = sym (at_place-put_at_other r k now pool.resources other) ∙ at_k in
              or_second (is_unit decision.unit u && has_record old u) (is_on old u && not (is_unit c.cur u))
              (and_from (is_on old u) (not (is_unit c.cur u)) (on_of old u (sym kind ∙ recorded) (on.own k x at_old u is)) (ap not (not_shared most k x u other at_old is)))
        ]);
        off = λ u is. elim (or_cases (is_unit decision.unit u && has_record old u) (is_on old u && not (is_unit c.cur u)) (sym (is_now u) ∙ is)) [
          | inl taken ↦
              core_found next r now u at_now (decided_cur t decision c ∙ is_unit_same decision.unit u (and_left (is_unit decision.unit u) (has_record old u) taken))
          | inr stays ↦
              let found = found_core pool u (on.off u (and_left (is_on old u) (not (is_unit c.cur u)) stays)) in
              let other : found.0 ≢ r = λ e. (
              let same : c ≡ found.1 = (let at_r : at_place pool.resources r ≡ Some found.1 = subst (λ (j : ℕ). at_place pool.resources j ≡ Some found.1) e found.2 in cc) in
              clash (is_unit c.cur u) (is_that_unit c.cur u (ap (λ (d : Resource). d.cur) same ∙ found.3)) (not-true (is_unit c.cur u) (and_right (is_on old u) (not (is_unit c.cur u)) stays))) in
              core_found next found.0 found.1 u (at_place-put_at_other r found.0 now pool.resources other ∙ found.2) found.3
        ];
      }

-- a core that comes has no unit
pub on_core_comes : (r : ℕ) (ends : List Moment) (pool : Pool) → at_place pool.resources r ≡ None → AreOn pool → AreOn (record pool { resources = put_at r (joined_core ends) pool.resources })
on_core_comes r ends pool none on = record {
  own = EachPlace-put_at (λ (c : Resource). ForSome c.cur (λ u. may_unit_be_on pool.scheduler.records u ≡ true)) r (joined_core ends) pool.resources on.own (λ u is. absurd (cc));
  off = λ u is.
      let found = found_core pool u (on.off u is) in
      let other : found.0 ≢ r = λ e. (let at_r : at_place pool.resources r ≡ Some found.1 = subst (λ (j : ℕ). at_place pool.resources j ≡ Some found.1) e found.2 in cc) in
      core_found (record pool { resources = put_at r (joined_core ends) pool.resources }) found.0 found.1 u (at_place-put_at_other r found.0 (joined_core ends) pool.resources other ∙ found.2) found.3;
}

-- nor has one that goes
pub on_core_goes : (g t r : ℕ) (pool : Pool) → enabled_in g t pool (Moved (core r)) ≡ true → AreOn pool → AreOn (record pool { resources = clear_at r pool.resources })
on_core_goes g t r pool enabled on =
    let goes = goes_empty g t r pool enabled in
    record {
      own = EachPlace-clear_at (λ (c : Resource). ForSome c.cur (λ u. may_unit_be_on pool.scheduler.records u ≡ true)) r pool.resources on.own;
      off = λ u is.
          let found = found_core pool u (on.off u is) in
          let other : found.0 ≢ r = λ e. (
          let at_r : at_place pool.resources r ≡ Some found.1 = subst (λ (j : ℕ). at_place pool.resources j ≡ Some found.1) e found.2 in
          let same : goes.0 ≡ found.1 = cc in
          let none : found.1.cur ≡ None = subst (λ (x : Resource). x.cur ≡ None) same goes.2 in
          let own = found.3 in
          cc) in
          core_found (record pool { resources = clear_at r pool.resources }) found.0 found.1 u (at_place-clear_at_other r found.0 pool.resources other ∙ found.2) found.3;
    }

-- a domain that joins has no unit on
pub on_joined : (g t d : ℕ) (domain : Domain) (params : DomParams) (pool : Pool) → at_place pool.domains d ≡ None → HasMembers g pool → EachPlace (HasMember pool) pool.resources → AreOn pool → AreOn (joined g t d domain params pool)
on_joined g t d domain params pool none has units on =
    let old : Records = pool.scheduler.records in
    let next : Pool = joined g t d domain params pool in
    record {
      own = λ k x at_k u is.
          let other : u.dom.0 ≢ d = member_elsewhere g pool d u has none ((units k x at_k).cur u is) in
          may_same old next.scheduler.records u (running.joins old params d (domain_unit_count g domain) t u other) (running.joins_kind old params d (domain_unit_count g domain) t) ∙ on.own k x at_k u is;
      off = λ u is. elim (ℕ_discrete u.dom.0 d) [
        | yes own ↦ on.off u (running.joins_off old params d (domain_unit_count g domain) t u own is)
        | no other ↦ on.off u (sym (running.joins old params d (domain_unit_count g domain) t u other) ∙ is)
      ];
    }

-- a domain that parts leaves the units of the others as they are
pub on_parted : (g t d : ℕ) (pool : Pool) → enabled_in g t pool (DomMoved (domain_number d)) ≡ true → AreOn pool → AreOn (pool_without_domain d pool)
on_parted g t d pool enabled on =
    let old : Records = pool.scheduler.records in
    record {
      own = λ k x at_k u is.
          let other : u.dom.0 ≢ d = other_domain d x.cur u (or_left (is_domain_unit d x.cur) (is_domain_unit d x.saving) (none_of_domain g t d pool enabled k x at_k)) is in
          may_same old (pool_without_domain d pool).scheduler.records u (running.parts old d u other) (running.parts_kind old d) ∙ on.own k x at_k u is;
      off = λ u is. elim (ℕ_discrete u.dom.0 d) [
        | yes own ↦ on.off u (running.parts_off old d u own is)
        | no other ↦ on.off u (sym (running.parts old d u other) ∙ is)
      ];
    }

-- where no domain has joined, no unit is on
pub none_on : (params : PoolParams) (domains cores : ℕ) (u : UnitId) → is_on (empty_records params domains cores) u ≡ false
none_on (pool_params.Credit2 limit) domains cores u =
    ap (λ (o : Option Credit2Domain). elim o as (λ _. Bool) [ None ↦ false | Some d ↦ elim (slice_get d.units u.n) as (λ _. Bool) [ None ↦ false | Some x ↦ is_some x.burned ] ]) (at_place-replicate {X = Credit2Domain} domains u.dom.0)
none_on pool_params.Rtds domains cores u =
    ap (λ (o : Option (List RtdsUnit)). elim (elim o as (λ _. Option RtdsUnit) [ None ↦ None | Some units ↦ slice_get units u.n ]) as (λ _. Bool) [ None ↦ false | Some x ↦ is_some x.burned ]) (at_place-replicate {X = List RtdsUnit} domains u.dom.0)
none_on other domains cores u = refl

-- a save leaves each core its own unit
pub on_save : (g r : ℕ) (u : UnitId) (pool : Pool) → AreOn pool → AreOn (pools.after_save g r u pool)
on_save g r u pool on =
    by_cond AreOn (may_unit_run g pool u) _ _ (λ runs. record { own = own; off = off }) (λ runs. record { own = own; off = off })
  where
    next : Pool
    next = change_core r pools.saved_core pool

    own : EachPlace (λ (c : Resource). ForSome c.cur (λ w. may_unit_be_on pool.scheduler.records w ≡ true)) (change_at r pools.saved_core pool.resources)
    own = EachPlace-change_at (λ (c : Resource). ForSome c.cur (λ w. may_unit_be_on pool.scheduler.records w ≡ true)) r pools.saved_core pool.resources on.own (λ x at here. here)

    off : (w : UnitId) → is_on pool.scheduler.records w ≡ true → is_some (unit_core next w) ≡ true
    off w is =
        let found = found_core pool w (on.off w is) in
        let now = alike_is (λ (c : Resource). c.cur) pool.resources next.resources found.0 found.1 (alike_change_at (λ (c : Resource). c.cur) r pools.saved_core pool.resources (λ c. refl)) found.2 in
        core_found next found.0 now.0 w now.1 (now.2 ∙ found.3)

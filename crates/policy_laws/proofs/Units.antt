-- The units of the cores are members: where a core decides or saves, and where cores and domains come and go.
use Rattle.sched_base.specs.Numbers.{core, domain as domain_number}
use Rattle.std.proofs.Common.{◌≡◌, ◌≢◌, ◌<◌, ℕ, true, false, List, refl, subst, sym, ◌∙◌, ap, length}
use Rattle.std.specs.Prelude.{Option, Some, None, is_none, is_some, nat_lt, not, ◌&&◌, ◌||◌, ◌==◌}
use Rattle.std.specs.List.{AllByRecursion}
use Rattle.std.specs.Option.{ForSome}
use Rattle.std.proofs.lemmas.Bool.{eq-eqb, not-true}
use Rattle.sched_base.specs.declared.Cores.{Cores}
use Rattle.sched_base.specs.declared.Moment.{Moment}
use Rattle.sched_base.specs.declared.UnitId.{UnitId}
use Rattle.sched_model.specs.declared.action.Action.TheVariants.{Moved, DomMoved}
use Rattle.sched_model.specs.declared.config.DomParams.{DomParams}
use Rattle.sched_model.specs.declared.state.Domain.{Domain}
use Rattle.sched_model.specs.declared.state.Resource.{Resource}
use Rattle.sched_model.specs.declared.state.Pool.{Pool}
use Rattle.sched_model.specs.Places.{at_place, put_at, clear_at, test_at}
use Rattle.sched_model.specs.State.{may_unit_run}
use Rattle.sched_model.specs.EligibleUnits.{Decision}
use Rattle.sched_model.specs.Opening.{joined_core}
use Rattle.sched_model.specs.Policy.{decision_of}
use Rattle.sched_model.specs.Pool as pools
use Rattle.sched_model.specs.Pool.{core_ask, change_core, decided_core, enabled_in, is_domain_unit, same_choice, pool_without_domain}
use Rattle.sched_laws.specs.EachPlace.{EachPlace}
use Rattle.sched_laws.proofs.EachPlace.{EachPlace-change_at, EachPlace-put_at, EachPlace-clear_at, at_place-put_at_other, at_place-clear_at_other, by_cond, by_test}
use Rattle.sched_laws.proofs.Lists.{none_passes, at_numbered, some-test_at}
use Rattle.sched_base.proofs.Lists.{AllByRecursion-map}
use Rattle.sched_laws.proofs.Choices.{decision_has}
use Rattle.sched_laws.specs.PoolFacts.{IfUnit}
use Rattle.sched_laws.proofs.Sound.{none_is}
use Rattle.sched_laws.proofs.OnePlace.{decided_cur}
use Rattle.sched_base.proofs.Bools.{and_left, and_right, clash, or_left, or_right}
use Rattle.sched_ops.specs.Conditions.{is_member}
use Rattle.sched_ops.specs.Seen.{units_of}
use Rattle.policy_laws.specs.Holds.{HasMembers, HasMember}
use Rattle.policy_laws.proofs.Members.{joined, member_elsewhere, runnable_member}

-- none of the cores has a unit of a domain that goes
pub none_of_domain : (g t d : ℕ) (pool : Pool) → enabled_in g t pool (DomMoved (domain_number d)) ≡ true → EachPlace (λ (c : Resource). (is_domain_unit d c.cur || is_domain_unit d c.saving) ≡ false) pool.resources
none_of_domain g t d pool on =
    at_numbered (λ (c : Resource). (is_domain_unit d c.cur || is_domain_unit d c.saving) ≡ false) 0 pool.resources (none_passes _ _ (not-true _ (and_right (test_at pool.domains d (λ x. is_some x.moving)) _ on)))

pub other_domain : (d : ℕ) (o : Option UnitId) (u : UnitId) → is_domain_unit d o ≡ false → o ≡ Some u → u.dom.0 ≢ d
other_domain d o u none is e = clash (u.dom.0 == d) (eq-eqb u.dom.0 d e) (sym (ap (is_domain_unit d) is) ∙ none)

-- a core that goes has no unit
pub goes_empty : (g t r : ℕ) (pool : Pool) → enabled_in g t pool (Moved (core r)) ≡ true → (c : Resource) × (at_place pool.resources r ≡ Some c) × (c.cur ≡ None)
goes_empty g t r pool on =
    let found = some-test_at pool.resources r (λ c. c.leaving && is_none c.cur && is_none c.saving && not c.pending && pools.is_gathering c && pools.is_first_processor_up t c) on in
    let c : Resource = found.0 in
    let three : (c.leaving && is_none c.cur && is_none c.saving) ≡ true =
    and_left _ _ (and_left (c.leaving && is_none c.cur && is_none c.saving && not c.pending) _ (and_left (c.leaving && is_none c.cur && is_none c.saving && not c.pending && pools.is_gathering c) _ found.2)) in
    (c, found.1, none_is c.cur (and_right c.leaving _ (and_left (c.leaving && is_none c.cur) _ three)))

for_some : (P : UnitId → Type 0) (o : Option UnitId) → IfUnit P o → ForSome o P
for_some P o here u is = subst (IfUnit P) is here

-- the members stay members
member_moves : (old next : Pool) (c : Resource) → ((u : UnitId) → is_member old.scheduler u ≡ true → is_member next.scheduler u ≡ true) → HasMember old c → HasMember next c
member_moves old next c more here = record { cur = λ u is. more u (here.cur u is); saving = λ u is. more u (here.saving u is) }

module _ (g : ℕ) where
  -- a decision gives a member
  pub chosen_member : 0 < g → (t r : ℕ) (c : Resource) (pool : Pool) → HasMembers g pool → AllByRecursion (λ u. may_unit_run g pool u ≡ true) pool.scheduler.queue → HasMember pool c
      → ForSome (decision_of (core_ask g t pool r c) pool.scheduler).unit (λ u. is_member pool.scheduler u ≡ true)
  chosen_member some t r c pool has waits own =
      for_some (λ u. is_member pool.scheduler u ≡ true) (decision_of (core_ask g t pool r c) pool.scheduler).unit
      (decision_has (λ u. is_member pool.scheduler u ≡ true) (core_ask g t pool r c) pool.scheduler
      (AllByRecursion-map (λ u. may_unit_run g pool u ≡ true) (λ u. is_member pool.scheduler u ≡ true) (λ u runs. runnable_member g some pool u has runs) pool.scheduler.queue waits)
      (λ u is runs. own.cur u is))

  pub units_decide : 0 < g → (t r : ℕ) (c : Resource) (pool : Pool) → at_place pool.resources r ≡ Some c → HasMembers g pool → AllByRecursion (λ u. may_unit_run g pool u ≡ true) pool.scheduler.queue → EachPlace (HasMember pool) pool.resources
      → EachPlace (HasMember (pools.after_decide g t r c pool)) (pools.after_decide g t r c pool).resources
  units_decide some t r c pool at has waits each =
      let decision : Decision = decision_of (core_ask g t pool r c) pool.scheduler in
      let next : Pool = pools.after_decide g t r c pool in
      let own : HasMember pool c = each r c at in
      EachPlace-put_at (HasMember next) r (decided_core t decision c) pool.resources (λ k x at_k. member_moves pool next x (λ u member. member) (each k x at_k))
      (record {
        cur = λ u is. chosen_member some t r c pool has waits own u (sym (decided_cur t decision c) ∙ is);
        saving = by_test (λ (d : Resource). ForSome d.saving (λ u. is_member pool.scheduler u ≡ true)) (same_choice decision.unit c.cur) _ _ (λ is. own.saving) (λ is. own.cur);
      })

  pub units_save : (r : ℕ) (u : UnitId) (pool : Pool) → EachPlace (HasMember pool) pool.resources → EachPlace (HasMember (pools.after_save g r u pool)) (pools.after_save g r u pool).resources
  units_save r u pool each =
      let next : Pool = change_core r pools.saved_core pool in
      let same : (after : Pool) → after.scheduler.affinity ≡ pool.scheduler.affinity → after.resources ≡ next.resources → EachPlace (HasMember after) after.resources =
      λ after sets cores.
      subst (λ (places : List (Option Resource)). EachPlace (HasMember after) places) (sym cores)
      (EachPlace-change_at (HasMember after) r pools.saved_core pool.resources
      (λ k x at_k. member_moves pool after x (λ w member. ap (λ (a : List (Option (List Cores))). is_member (record pool.scheduler { affinity = a }) w) sets ∙ member) (each k x at_k))
      (λ x at_x here. record { cur = here.cur; saving = λ w is. absurd (cc) })) in
      by_cond (λ (after : Pool). EachPlace (HasMember after) after.resources) (may_unit_run g pool u) (pools.queue_unit u next) next (λ runs. same (pools.queue_unit u next) refl refl) (λ runs. same next refl refl)

  pub units_core_comes : (r : ℕ) (ends : List Moment) (pool : Pool) → EachPlace (HasMember pool) pool.resources
      → EachPlace (HasMember (record pool { resources = put_at r (joined_core ends) pool.resources })) (put_at r (joined_core ends) pool.resources)
  units_core_comes r ends pool each =
      let next : Pool = record pool { resources = put_at r (joined_core ends) pool.resources } in
      EachPlace-put_at (HasMember next) r (joined_core ends) pool.resources (λ k x at_k. member_moves pool next x (λ u member. member) (each k x at_k)) (record { cur = λ u is. absurd (cc); saving = λ u is. absurd (cc) })

  pub units_core_goes : (r : ℕ) (pool : Pool) → EachPlace (HasMember pool) pool.resources → EachPlace (HasMember (record pool { resources = clear_at r pool.resources })) (clear_at r pool.resources)
  units_core_goes r pool each =
      let next : Pool = record pool { resources = clear_at r pool.resources } in
      EachPlace-clear_at (HasMember next) r pool.resources (λ k x at_k. member_moves pool next x (λ u member. member) (each k x at_k))

  pub units_joined : (t d : ℕ) (domain : Domain) (params : DomParams) (pool : Pool) → at_place pool.domains d ≡ None → HasMembers g pool → EachPlace (HasMember pool) pool.resources
      → EachPlace (HasMember (joined g t d domain params pool)) pool.resources
  units_joined t d domain params pool none has each k x at_k =
      let next : Pool = joined g t d domain params pool in
      member_moves pool next x
      (λ u member.
      let same : units_of next.scheduler u.dom.0 ≡ units_of pool.scheduler u.dom.0 =
      ap (λ (o : Option (List Cores)). elim o as (λ _. ℕ) [ None ↦ 0 | Some sets ↦ length sets ]) (at_place-put_at_other d u.dom.0 _ pool.scheduler.affinity (member_elsewhere g pool d u has none member)) in
      ap (λ (n : ℕ). nat_lt u.n n) same ∙ member) (each k x at_k)

  pub units_parted : (t d : ℕ) (pool : Pool) → enabled_in g t pool (DomMoved (domain_number d)) ≡ true → EachPlace (HasMember pool) pool.resources → EachPlace (HasMember (pool_without_domain d pool)) pool.resources
  units_parted t d pool on each k x at_k =
      let none = none_of_domain g t d pool on k x at_k in
      let here : HasMember pool x = each k x at_k in
      record {
        cur = λ u is. stays u (other_domain d x.cur u (or_left (is_domain_unit d x.cur) (is_domain_unit d x.saving) none) is) (here.cur u is);
        saving = λ u is. stays u (other_domain d x.saving u (or_right (is_domain_unit d x.cur) (is_domain_unit d x.saving) none) is) (here.saving u is);
      }
    where
      stays : (u : UnitId) → u.dom.0 ≢ d → is_member pool.scheduler u ≡ true → is_member (pool_without_domain d pool).scheduler u ≡ true
      stays u other member =
          let same : units_of (pool_without_domain d pool).scheduler u.dom.0 ≡ units_of pool.scheduler u.dom.0 =
          ap (λ (o : Option (List Cores)). elim o as (λ _. ℕ) [ None ↦ 0 | Some sets ↦ length sets ]) (at_place-clear_at_other d u.dom.0 pool.scheduler.affinity other) in
          ap (λ (n : ℕ). nat_lt u.n n) same ∙ member

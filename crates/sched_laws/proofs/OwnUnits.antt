-- The units of a pool's queue and of its cores are units of its domains.
use Rattle.std.proofs.Common.{◌≡◌, ◌≢◌, ℕ, true, false, not, List, refl, arith, subst, sym, ◌∙◌, ap}
use Rattle.std.specs.List.{AllByRecursion}
use Rattle.std.specs.Prelude.{Option, Some, None, is_some, is_none, replicate, ◌||◌, ◌==◌}
use Rattle.std.proofs.lemmas.Bool.{not-true}
use Rattle.sched_base.specs.Numbers.{pool as pool_number, domain as domain_number}
use Rattle.sched_base.specs.declared.UnitId.{UnitId}
use Rattle.sched_model.specs.declared.config.DomParams.{DomParams}
use Rattle.sched_model.specs.declared.state.Domain.{Domain}
use Rattle.sched_model.specs.declared.state.Resource.{Resource}
use Rattle.sched_model.specs.Places.{at_place, put_at, clear_at, change_at, test_at, numbers_from, without_unit, same_unit}
use Rattle.sched_model.specs.declared.state.Pool.{Pool}
use Rattle.sched_model.specs.declared.state.Records.{Records}
use Rattle.sched_model.specs.State.{may_unit_run, unit_runnable}
use Rattle.sched_model.specs.Opening.{joined_core, machine_core_count}
use Rattle.sched_model.specs.EligibleUnits.{Decision}
use Rattle.sched_model.specs.Policy as policy
use Rattle.sched_model.specs.Policy.{decision_of, scheduler_without_queued}
use Rattle.sched_model.specs.Pool as pools
use Rattle.sched_model.specs.Pool.{enabled_in, change_core, change_domain, change_cores_of, queue_unit, decided_core, same_choice, core_ask, pool_with_moving, pool_without_domain, pool_with_domain, with_records, is_domain_unit}
use Rattle.sched_model.specs.declared.action.Action.TheVariants.{DomMoved}
use Rattle.sched_laws.specs.EachPlace.{EachPlace}
use Rattle.sched_laws.proofs.EachPlace.{EachPlace-change_at, EachPlace-put_at, EachPlace-clear_at, EachPlace-empty, by_test}
use Rattle.sched_laws.proofs.Lists.{none_passes, at_numbered, test_at-some, some-test_at, test_at-change_at, test_at-change_at_other, test_at-put_at, test_at-clear_at}
use Rattle.sched_base.proofs.Lists.{AllByRecursion-map, AllByRecursion-push, AllByRecursion-filter}
use Rattle.sched_laws.proofs.Choices.{decision_has}
use Rattle.sched_laws.specs.PoolFacts.{IfUnit}
use Rattle.sched_laws.proofs.Kept.{IsKept, IsFresh}
use Rattle.sched_laws.proofs.Events.{LikePlaces, EachAt-like, capped, like_of_domain, KeepsCore, Anyway, KeptByCommands, KeptByParts, commands_of, kept_settled, kept_processor, kept_by_parts, kept_set_leaving, kept_cores_pending, kept_pause, kept_unpause, kept_marked, kept_queue_units}
use Rattle.sched_base.proofs.Bools.{and_left, and_right, or_left, or_right}
use Rattle.sched_laws.specs.PoolFacts.{IsThere, IsStaying, CoreIsOwn, UnitsAreOwn}

pub there_if_staying : (domains : List (Option Domain)) (u : UnitId) → IsStaying domains u → IsThere domains u
there_if_staying domains u staying = let r = some-test_at domains u.dom.0 (λ d. is_none d.moving) staying in test_at-some domains u.dom.0 (λ d. true) r.0 r.1 refl

-- a change of the cores that keeps what each core has
own_cores : (cores : List (Option Resource)) (pool : Pool) → EachPlace (CoreIsOwn pool.domains) cores → UnitsAreOwn pool → UnitsAreOwn (record pool { resources = cores })
own_cores cores pool each own = record { queue = own.queue; cores = each }

own_change_core : (r : ℕ) (f : Resource → Resource) (pool : Pool) → ((c : Resource) → CoreIsOwn pool.domains c → CoreIsOwn pool.domains (f c)) → UnitsAreOwn pool → UnitsAreOwn (change_core r f pool)
own_change_core r f pool keeps own = own_cores _ pool (EachPlace-change_at (CoreIsOwn pool.domains) r f pool.resources own.cores (λ c at. keeps c)) own

-- cores that keep their units
own_like : (cores : List (Option Resource)) (pool : Pool) → LikePlaces KeepsCore pool.resources cores → UnitsAreOwn pool → UnitsAreOwn (record pool { resources = cores })
own_like cores pool like own =
    own_cores cores pool (EachAt-like KeepsCore (λ r. CoreIsOwn pool.domains) pool.resources cores like
    (λ r c d keeps here. record { cur = subst (IfUnit (IsThere pool.domains)) (sym keeps.cur) here.cur; saving = subst (IfUnit (IsThere pool.domains)) (sym keeps.saving) here.saving }) own.cores) own

pub if_unit : (P Q : UnitId → Type 0) → ((u : UnitId) → P u → Q u) → (o : Option UnitId) → IfUnit P o → IfUnit Q o
if_unit P Q to None here = tt
if_unit P Q to (Some u) here = to u here

-- a change of the domains under which the units stay
own_domains : (domains : List (Option Domain)) (pool : Pool) → ((u : UnitId) → IsStaying pool.domains u → IsStaying domains u) → ((u : UnitId) → IsThere pool.domains u → IsThere domains u) → UnitsAreOwn pool → UnitsAreOwn (record pool { domains = domains })
own_domains domains pool stay there own =
    record {
      queue = AllByRecursion-map (IsStaying pool.domains) (IsStaying domains) stay pool.scheduler.queue own.queue;
      cores = λ r c at. let here : CoreIsOwn pool.domains c = own.cores r c at in record { cur = if_unit _ _ there c.cur here.cur; saving = if_unit _ _ there c.saving here.saving };
    }

own_change_domain : (d : ℕ) (f : Domain → Domain) (pool : Pool) → ((x : Domain) → (f x).moving ≡ x.moving) → UnitsAreOwn pool → UnitsAreOwn (change_domain d f pool)
own_change_domain d f pool same own =
    own_domains (change_at d f pool.domains) pool
    (λ u staying. test_at-change_at d u.dom.0 f (λ x. is_none x.moving) pool.domains (λ x. ap is_none (same x)) ∙ staying)
    (λ u there. test_at-change_at d u.dom.0 f (λ x. true) pool.domains (λ x. refl) ∙ there) own

own_queue_unit : (u : UnitId) (pool : Pool) → IsStaying pool.domains u → UnitsAreOwn pool → UnitsAreOwn (queue_unit u pool)
own_queue_unit u pool staying own = record { queue = AllByRecursion-push (IsStaying pool.domains) pool.scheduler.queue u own.queue staying; cores = own.cores }

-- a runnable unit's domain is not moving
staying_if_runnable : (g : ℕ) (pool : Pool) (u : UnitId) → may_unit_run g pool u ≡ true → IsStaying pool.domains u
staying_if_runnable g pool u runs =
    let r = some-test_at pool.domains u.dom.0 (λ d. unit_runnable g d u.n) runs in
    test_at-some pool.domains u.dom.0 (λ d. is_none d.moving) r.0 r.1 (and_right _ _ (and_left _ _ r.2))

-- a decision gives a unit of the pool
own_decided : (domains : List (Option Domain)) (t : ℕ) (decision : Decision) (c : Resource) → IfUnit (IsThere domains) decision.unit → CoreIsOwn domains c → CoreIsOwn domains (decided_core t decision c)
own_decided domains t decision c chosen own =
    by_test (CoreIsOwn domains) (same_choice decision.unit c.cur) _ _ (λ is. record { cur = own.cur; saving = own.saving }) (λ is. record { cur = chosen; saving = own.cur })

own_unqueued : (P : UnitId → Type 0) (chosen : Option UnitId) (queue : List UnitId) → AllByRecursion P queue → AllByRecursion P (elim chosen as (λ _. List UnitId) [ None ↦ queue | Some u ↦ without_unit u queue ])
own_unqueued P None queue each = each
own_unqueued P (Some u) queue each = AllByRecursion-filter P P (λ w. not (same_unit u w)) (λ w is here. here) queue each

own_after_decide : (g t r : ℕ) (c : Resource) (pool : Pool) → at_place pool.resources r ≡ Some c → UnitsAreOwn pool → UnitsAreOwn (pools.after_decide g t r c pool)
own_after_decide g t r c pool at own =
    let decision : Decision = decision_of (core_ask g t pool r c) pool.scheduler in
    let core : CoreIsOwn pool.domains c = own.cores r c at in
    let chosen : IfUnit (IsThere pool.domains) decision.unit =
    decision_has (IsThere pool.domains) (core_ask g t pool r c) pool.scheduler
    (AllByRecursion-map (IsStaying pool.domains) (IsThere pool.domains) (there_if_staying pool.domains) pool.scheduler.queue own.queue)
    (λ u is runs. subst (IfUnit (IsThere pool.domains)) is core.cur) in
    record {
      queue = own_unqueued (IsStaying pool.domains) decision.unit pool.scheduler.queue own.queue;
      cores = EachPlace-put_at (CoreIsOwn pool.domains) r (decided_core t decision c) pool.resources own.cores (own_decided pool.domains t decision c chosen core);
    }

own_with_records : (records : Records) (pool : Pool) → UnitsAreOwn pool → UnitsAreOwn (with_records records pool)
own_with_records records pool own = record { queue = own.queue; cores = own.cores }

own_parts : (g t : ℕ) → KeptByParts g t Anyway UnitsAreOwn
own_parts g t = record {
  cores = own_like;
  domains = λ d f pool count moving. own_change_domain d f pool moving;
  queues = λ u pool runs. own_queue_unit u pool (staying_if_runnable g pool u runs);
  dequeues = λ d pool own. record { queue = AllByRecursion-filter (IsStaying pool.domains) (IsStaying pool.domains) (λ u. not (u.dom.0 == d)) (λ u is here. here) pool.scheduler.queue own.queue; cores = own.cores };
  decides = λ r c pool at on. own_after_decide g t r c pool at;
  saves = λ r c u pool at is on. own_change_core r pools.saved_core pool (λ c core. record { cur = core.cur; saving = tt });
  replenishes = λ u pool on. own_with_records _ pool;
  dues = λ r u x old pool on is. own_change_core r (pools.due_within t x.budget) pool (λ c core. record { cur = core.cur; saving = core.saving });
  refills = λ d pool on. own_with_records _ pool;
}

-- a cap that is set
own_caps : (t d : ℕ) (pool : Pool) → UnitsAreOwn pool → UnitsAreOwn (change_cores_of d (capped t) pool)
own_caps t d pool own =
    let Own : Resource → Type 0 = CoreIsOwn pool.domains in
    own_cores _ pool (EachAt-like (λ c e. Own c → Own e) (λ r. Own) pool.resources _ (like_of_domain (λ c e. Own c → Own e) d (capped t) pool.resources (λ c here. here) (λ c here. record { cur = here.cur; saving = here.saving })) (λ r c e to. to) own.cores) own

-- a domain that is set moving: those of the queue that are left are of other domains
pub other_unit : (d : ℕ) (u : UnitId) → not (u.dom.0 == d) ≡ true → u.dom.0 ≢ d
other_unit d u is e = grind arith

own_set_moving : (d i : ℕ) (pool : Pool) → UnitsAreOwn pool → UnitsAreOwn (pool_with_moving d i pool)
own_set_moving d i pool own =
    let f : Domain → Domain = λ domain. record domain { moving = Some (pool_number i) } in
    let there : (u : UnitId) → IsThere pool.domains u → IsThere (change_at d f pool.domains) u = λ u here. test_at-change_at d u.dom.0 f (λ x. true) pool.domains (λ x. refl) ∙ here in
    kept_cores_pending (commands_of (own_parts 1 0)) d (record pool { domains = change_at d f pool.domains; scheduler = scheduler_without_queued d pool.scheduler })
    (record {
      queue = AllByRecursion-filter (IsStaying pool.domains) (IsStaying (change_at d f pool.domains)) (λ u. not (u.dom.0 == d))
          (λ u is staying. test_at-change_at_other d u.dom.0 f (λ x. is_none x.moving) pool.domains (other_unit d u is) ∙ staying) pool.scheduler.queue own.queue;
      cores = λ r c at. let here : CoreIsOwn pool.domains c = own.cores r c at in record { cur = if_unit _ _ there c.cur here.cur; saving = if_unit _ _ there c.saving here.saving };
    })

-- a domain goes: it was moving, so none of its units waits, and none is cur or saving
not_of_domain : (d : ℕ) (domains : List (Option Domain)) (o : Option UnitId) → is_domain_unit d o ≡ false → IfUnit (IsThere domains) o → IfUnit (IsThere (clear_at d domains)) o
not_of_domain d domains None none here = tt
not_of_domain d domains (Some u) none here = test_at-clear_at d u.dom.0 (λ x. true) domains (λ e. grind arith) ∙ here

pub moving_not_staying : (d : ℕ) (domains : List (Option Domain)) (u : UnitId) → test_at domains d (λ x. is_some x.moving) ≡ true → IsStaying domains u → u.dom.0 ≢ d
moving_not_staying d domains u moving staying e =
    let a = some-test_at domains d (λ x. is_some x.moving) moving in
    let b = some-test_at domains u.dom.0 (λ x. is_none x.moving) staying in
    let same : a.0 ≡ b.0 = cc in
    both_ways a.0.moving a.2 (subst (λ (x : Domain). is_none x.moving ≡ true) (sym same) b.2)
  where
    both_ways : {X : Type 0} (o : Option X) → is_some o ≡ true → is_none o ≡ true → ⊥
    both_ways None some none = cc
    both_ways (Some x) some none = cc

own_without_domain : (g t d : ℕ) (pool : Pool) → enabled_in g t pool (DomMoved (domain_number d)) ≡ true → UnitsAreOwn pool → UnitsAreOwn (pool_without_domain d pool)
own_without_domain g t d pool on own =
    let moving = and_left (test_at pool.domains d (λ x. is_some x.moving)) _ on in
    let none = at_numbered (λ (c : Resource). (is_domain_unit d c.cur || is_domain_unit d c.saving) ≡ false) 0 pool.resources (none_passes _ _ (not-true _ (and_right (test_at pool.domains d (λ x. is_some x.moving)) _ on))) in
    record {
      queue = AllByRecursion-map (IsStaying pool.domains) (IsStaying (clear_at d pool.domains))
          (λ u staying. test_at-clear_at d u.dom.0 (λ x. is_none x.moving) pool.domains (moving_not_staying d pool.domains u moving staying) ∙ staying) pool.scheduler.queue own.queue;
      cores = λ r c at.
          let here : CoreIsOwn pool.domains c = own.cores r c at in
          record { cur = not_of_domain d pool.domains c.cur (or_left _ _ (none r c at)) here.cur; saving = not_of_domain d pool.domains c.saving (or_right (is_domain_unit d c.cur) _ (none r c at)) here.saving };
    }

own_with_domain : (g t d : ℕ) (domain : Domain) (params : DomParams) (pool : Pool) → domain.moving ≡ None → UnitsAreOwn pool → UnitsAreOwn (pool_with_domain g t d domain params pool)
own_with_domain g t d domain params pool stays own =
    kept_queue_units (commands_of (own_parts g t)) d (numbers_from 0 (pools.domain_unit_count g domain)) _
    (own_domains (put_at d domain pool.domains) (record pool { scheduler = policy.joined_scheduler d (pools.domain_unit_count g domain) params t pool.scheduler })
    (λ u staying. test_at-put_at d u.dom.0 domain (λ x. is_none x.moving) pool.domains (rw stays refl) staying)
    (λ u there. test_at-put_at d u.dom.0 domain (λ x. true) pool.domains refl there)
    (record { queue = own.queue; cores = own.cores }))

fresh_is_own : (domains : List (Option Domain)) (c : Resource) → IsFresh c → CoreIsOwn domains c
fresh_is_own domains c fresh = subst (CoreIsOwn domains) (sym fresh.1) (record { cur = tt; saving = tt })

empty_has_none : (n r : ℕ) (c : Resource) → at_place (replicate n None) r ≡ Some c → ⊥
empty_has_none n r c at = EachPlace-empty (λ c2. ⊥) n r c at

pub units_are_own : (g : ℕ) → IsKept g UnitsAreOwn
units_are_own g =
    let commands : KeptByCommands g UnitsAreOwn = commands_of (own_parts g 0) in
    record {
      inside = record {
        settles = kept_settled commands;
        stalls = λ p end. kept_processor (own_parts g 0) p _;
        acts = λ t pool action on. kept_by_parts (own_parts g t) pool action tt;
        leaves = kept_set_leaving commands;
        moves = own_set_moving;
        pauses = kept_pause commands;
        unpauses = kept_unpause commands;
        changes = λ change t pool own. kept_marked commands t (own_caps t) change _ (record { queue = own.queue; cores = own.cores });
      };
      core_comes = λ r ends pool none own. own_cores _ pool (EachPlace-put_at (CoreIsOwn pool.domains) r (joined_core ends) pool.resources own.cores (fresh_is_own pool.domains _ (ends, refl))) own;
      core_goes = λ t r pool on own. own_cores _ pool (EachPlace-clear_at (CoreIsOwn pool.domains) r pool.resources own.cores) own;
      domain_comes = λ t d domain params pool stays none own. own_with_domain g t d domain params pool stays own;
      domain_goes = own_without_domain g;
      empty = λ config params. record { queue = tt; cores = λ r c at. absurd (empty_has_none (machine_core_count config) r c at) };
      opens = λ config params cores whole fresh. record { queue = tt; cores = λ r c at. fresh_is_own _ c (fresh r c at) };
    }

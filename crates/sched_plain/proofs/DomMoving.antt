-- A domain that moves: what is in range on the way, what is printed, and what is left.
use Rattle.std.proofs.Common.{◌≡◌, ◌≤◌, ◌∙◌, ℕ, zero, suc, true, List, [], ◌∷◌, length, refl, sym, ap, subst, arith}
use Rattle.std.specs.Prelude.{Option, Some, None, ◌==◌}
use Rattle.sched_base.specs.Numbers.{domain as domain_number}
use Rattle.sched_base.specs.declared.PoolId.{PoolId}
use Rattle.sched_base.specs.declared.UnitId.{UnitId}
use Rattle.sched_model.specs.declared.action.Action.TheVariants.{DomMoved}
use Rattle.sched_model.specs.declared.machine.Machine.{Machine}
use Rattle.sched_model.specs.declared.config.DomParams.{DomParams}
use Rattle.sched_model.specs.declared.state.Domain.{Domain}
use Rattle.sched_model.specs.declared.state.Pool.{Pool}
use Rattle.sched_model.specs.declared.state.Records.{Records}
use Rattle.sched_model.specs.declared.state.Records.TheVariants.{Credit2Pool, RtdsPool, ArincPool, NullPool}
use Rattle.sched_model.specs.declared.state.State.{State}
use Rattle.std.specs.List.{All}
use Rattle.sched_model.specs.Actions.{change_pool, home_pool_of_domain}
use Rattle.sched_model.specs.Machine.{after, is_action_enabled, is_null_pool, joined_by, left_by}
use Rattle.sched_model.specs.Places.{at_place, change_at, clear_at}
use Rattle.sched_laws.specs.EachPlace.{AllPlaces, EachPlace}
use Rattle.sched_model.specs.Policy.{standard_dom_params, parted_records}
use Rattle.sched_model.specs.Pool.{settled_pool, reconsidered_core, pool_core_set, pool_with_domain, pool_without_domain}
use Rattle.sched_laws.proofs.EachPlace.{EachPlace-change_at, EachPlace-clear_at, by_cond, length_change_each, length_set}
use Rattle.sched_laws.proofs.NullKept.{length_released}
use Rattle.state_ranges.specs.Ranges.{Credit2InRange, RtdsInRange}
use Rattle.scheduler_records.specs.Fits.{RecordsFit}
use Rattle.pool_records.specs.Fits.{DomainFits}
use Rattle.pool_records.proofs.FitsLemmas.{at_place-fits}
use Rattle.sched_plain.specs.Fits.{PoolFitsAt}
use Rattle.sched_plain.specs.Moves.{domain_in, domain_target}
use Rattle.sched_plain.specs.ReachedStates.{Stands}
use Rattle.sched_plain.proofs.Reaching.{stands-after}
use Rattle.sched_plain.proofs.Bridges.{stands-pool}
use Rattle.sched_plain.proofs.Performing.{settled-back}

-- the records after a domain has parted
parted-fit : (t d : ℕ) (records : Records) → RecordsFit t records → RecordsFit t (parted_records records d)
parted-fit t d (Credit2Pool records) fits = record { few_domains = (let same = length_set d None records.domains in let few = fits.few_domains in omega (arith, same, few)); limit = fits.limit; domains = EachPlace-clear_at (Credit2InRange t) d records.domains fits.domains }
parted-fit t d (RtdsPool domains) fits = record { few_domains = (let same = length_set d None domains in let few = fits.few_domains in omega (arith, same, few)); domains = EachPlace-clear_at (All (RtdsInRange t)) d domains fits.domains }
parted-fit t d (ArincPool records) fits = fits
parted-fit t d (NullPool kept) fits = (let same = length_released (λ (u : UnitId). u.dom.0 == d) kept in omega (arith, same, fits))

-- an empty place keeps what holds of the others
clear_at-keeps : {X : Type 0} (P : X → Type 0) (i : ℕ) (places : List (Option X)) → AllPlaces P places → AllPlaces P (clear_at i places)
clear_at-keeps P i [] all = tt
clear_at-keeps P zero (None ∷ places) all = all
clear_at-keeps P zero (Some x ∷ places) all = all.1
clear_at-keeps P (suc i) (None ∷ places) all = clear_at-keeps P i places all
clear_at-keeps P (suc i) (Some x ∷ places) all = (all.0, clear_at-keeps P i places all.1)

-- the pool without the domain
pub without-fits : (t d : ℕ) (pool : Pool) → PoolFitsAt t pool → PoolFitsAt t (pool_without_domain d pool)
without-fits t d pool fits = record {
  fits = record {
    cores = fits.fits.cores;
    few_domains = (let same = length_set d None pool.domains in let few = fits.fits.few_domains in omega (arith, same, few));
    domains = clear_at-keeps DomainFits d pool.domains fits.fits.domains;
  };
  records = parted-fit t d pool.scheduler.records fits.records;
  queue = fits.queue;
}

-- looking at the cores changes no number
settled-on : (t : ℕ) (pool : Pool) → PoolFitsAt t pool → PoolFitsAt t (settled_pool t pool)
settled-on t pool fits = record {
  fits = record { cores = (let same = length_change_each 0 (reconsidered_core t (pool_core_set pool) pool.scheduler) pool.resources in let few = fits.fits.cores in omega (arith, same, few)); few_domains = fits.fits.few_domains; domains = fits.fits.domains };
  records = fits.records;
  queue = fits.queue;
}

left-fits : (t d : ℕ) (pool : Pool) → PoolFitsAt t pool → PoolFitsAt t (left_by t d pool)
left-fits t d pool fits =
    by_cond (PoolFitsAt t) (is_null_pool pool.scheduler.records) (settled_pool t (pool_without_domain d pool)) (pool_without_domain d pool)
    (λ null. settled-on t (pool_without_domain d pool) (without-fits t d pool fits)) (λ other. without-fits t d pool fits)

pub pools-left : (t d i : ℕ) (pools : List (Option Pool)) → EachPlace (PoolFitsAt t) pools → EachPlace (PoolFitsAt t) (change_at i (left_by t d) pools)
pools-left t d i pools each = EachPlace-change_at (PoolFitsAt t) i (left_by t d) pools each (λ pool at fits. left-fits t d pool fits)

-- what is read through a value that is there
some_through : {X Y : Type 0} (o : Option X) (f : X → Option Y) (y : Y) → elim o as (λ _. Option Y) [ None ↦ None | Some x ↦ f x ] ≡ Some y → (x : X) × (o ≡ Some x) × (f x ≡ Some y)
some_through None f y is = absurd (cc)
some_through (Some x) f y is = (x, refl, is)

module _ (m : Machine) (s : State) (t d : ℕ) where
  module _ (i : ℕ) (to : PoolId) (domain : Domain) (home : home_pool_of_domain s d ≡ Some i) (target : domain_target d i s.pools ≡ Some to) (there : domain_in d i s.pools ≡ Some domain) where
    moves : domain.moving ≡ Some to
    moves = (let is : domain_target d i s.pools ≡ domain.moving = ap (λ (o : Option Domain). elim o as (λ _. Option PoolId) [ None ↦ None | Some x ↦ x.moving ]) there in sym is ∙ target)

    -- what is left
    pub dom-state : let left : State = record s { pools = change_at to.0 (joined_by m.config.granularity t d domain) (change_at i (left_by t d) s.pools) } in left ≡ after m s t (DomMoved (domain_number d))
    dom-state =
        let g : ℕ = m.config.granularity in
        let pool = some_through (at_place s.pools i) (λ (x : Pool). at_place x.domains d) domain there in
        let done : State = record s { pools = change_at to.0 (joined_by g t d domain) (change_at i (left_by t d) s.pools) } in
        let of_target : Domain → ℕ → Option PoolId → State = λ x k o. elim o as (λ _. State) [ None ↦ s | Some j ↦ change_pool j.0 (joined_by g t d x) (change_pool k (left_by t d) s) ] in
        let of_domain : ℕ → Option Domain → State = λ k o. elim o as (λ _. State) [ None ↦ s | Some x ↦ of_target x k x.moving ] in
        let of_pool : ℕ → Option Pool → State = λ k o. elim o as (λ _. State) [ None ↦ s | Some x ↦ of_domain k (at_place x.domains d) ] in
        let of_home : Option ℕ → State = λ o. elim o as (λ _. State) [ None ↦ s | Some k ↦ of_pool k (at_place s.pools k) ] in
        let whole : of_home (home_pool_of_domain s d) ≡ done = ap of_home home ∙ ap (of_pool i) pool.1 ∙ ap (of_domain i) pool.2 ∙ ap (of_target domain i) moves in
        sym whole

-- its vCPUs are few
pub domain-few : (t d i : ℕ) (pools : List (Option Pool)) (domain : Domain) → EachPlace (PoolFitsAt t) pools → domain_in d i pools ≡ Some domain → length domain.vcpus ≤ 32
domain-few t d i pools domain each there =
    let pool = some_through (at_place pools i) (λ (x : Pool). at_place x.domains d) domain there in
    (at_place-fits DomainFits pool.0.domains d domain (each i pool.0 pool.1).fits.domains pool.2).few

-- the pool that the domain has joined, before its cores are looked at
pub joined-fits : (g t d : ℕ) (joining : Domain) (params : DomParams) (pool next : Pool) → PoolFitsAt t (joined_by g t d joining pool) → params ≡ standard_dom_params pool.scheduler.records
    → next ≡ pool_with_domain g t d (record joining { moving = None }) params pool → PoolFitsAt t next
joined-fits g t d joining params pool next fits given joins =
    let joined : PoolFitsAt t (pool_with_domain g t d (record joining { moving = None }) (standard_dom_params pool.scheduler.records) pool) =
    settled-back t (pool_with_domain g t d (record joining { moving = None }) (standard_dom_params pool.scheduler.records) pool) fits in
    subst (PoolFitsAt t) (sym joins) (subst (λ (p : DomParams). PoolFitsAt t (pool_with_domain g t d (record joining { moving = None }) p pool)) (sym given) joined)

-- all pools after the move
pub pools-joined : (m : Machine) (s : State) (d i : ℕ) (to : PoolId) (domain : Domain) → Stands m s → is_action_enabled m s s.now (DomMoved (domain_number d)) ≡ true → home_pool_of_domain s d ≡ Some i → domain_target d i s.pools ≡ Some to → domain_in d i s.pools ≡ Some domain
    → EachPlace (PoolFitsAt s.now) (change_at to.0 (joined_by m.config.granularity s.now d domain) (change_at i (left_by s.now d) s.pools))
pools-joined m s d i to domain stands enabled home target there =
    let later : State = record s { pools = change_at to.0 (joined_by m.config.granularity s.now d domain) (change_at i (left_by s.now d) s.pools) } in
    stands-pool m later (subst (Stands m) (sym (dom-state m s s.now d i to domain home target there)) (stands-after m s (DomMoved (domain_number d)) stands enabled))

-- What the opening has.
use Rattle.std.proofs.lemmas.List.Elements.{recursion_from_All}
use Rattle.std.proofs.Common.{◌≡◌, ◌≤◌, ℕ, zero, suc, true, false, List, [], ◌∷◌, ◌++◌, refl, arith, subst, sym, ◌∙◌, ap, cond, ◌⊎◌, inl, inr, length, length-append}
use Rattle.std.specs.Prelude.{Option, Some, None, is_some, replicate, map, slice_get, ◌==◌, ◌-◌, ◌+◌, ◌&&◌, ◌/◌}
use Rattle.sched_base.specs.Numbers.{moment, domain as domain_number}
use Rattle.sched_base.specs.declared.Cores.{Cores}
use Rattle.sched_base.specs.declared.UnitId.{UnitId}
use Rattle.sched_base.proofs.Lists.{each_get}
use Rattle.std.proofs.lemmas.Option.{cond_some}
use Rattle.std.specs.List.{list_any}
use Rattle.sched_model.specs.declared.config.Config.{Config}
use Rattle.sched_model.specs.declared.config.PoolConfig.{PoolConfig}
use Rattle.sched_model.specs.declared.config.DomConfig.{DomConfig}
use Rattle.sched_model.specs.declared.config.DomParams.{DomParams}
use Rattle.sched_model.specs.declared.config.ParamChange.TheVariants as changes
use Rattle.sched_model.specs.declared.state.Domain.{Domain}
use Rattle.sched_model.specs.declared.state.Resource.{Resource}
use Rattle.sched_model.specs.Places.{at_place, put_at, numbers_from}
use Rattle.sched_model.specs.declared.machine.Machine.{Machine}
use Rattle.sched_model.specs.declared.state.Pool.{Pool}
use Rattle.sched_model.specs.declared.state.FreeCore.{FreeCore}
use Rattle.sched_model.specs.State.{has_core_bit, may_unit_run}
use Rattle.sched_model.specs.Pool as pools
use Rattle.sched_model.specs.Pool.{pool_with_domain, changed_pool, pool_with_queued_units, pool_with_queued_if_off}
use Rattle.sched_model.specs.Opening.{opening, free_core_at_opening, pool_at_opening, pools_at_opening, pool_with_domains, pool_with_configured, pool_with_pins, joined_core, machine_core_count, most_pools, domain_at_opening}
use Rattle.sched_laws.specs.EachPlace.{EachPlace}
use Rattle.sched_laws.proofs.EachPlace.{read_put_at, is_empty, by_cond, EachPlace-empty}
use Rattle.sched_model.specs.CheckedMachine.{IsChecked, IsCheckedDomain, DomParamsPass}
use Rattle.sched_laws.proofs.Lists.{none_passes, some-test_at, some_is}
use Rattle.sched_laws.proofs.Kept.{IsKept, IsApart}
use Rattle.sched_laws.specs.StateLaws.{has_core_at, has_domain_at}
use Rattle.sched_model.specs.Actions.{units_from}

-- what the queue gains changes neither domains nor cores
pub queue_if_off-domains : (g : ℕ) (u : UnitId) (pool : Pool) → (pool_with_queued_if_off g u pool).domains ≡ pool.domains
queue_if_off-domains g u pool = by_cond (λ (p : Pool). p.domains ≡ pool.domains) (may_unit_run g pool u && pools.is_unit_off pool u) _ _ (λ is. refl) (λ is. refl)

pub queue_if_off-resources : (g : ℕ) (u : UnitId) (pool : Pool) → (pool_with_queued_if_off g u pool).resources ≡ pool.resources
queue_if_off-resources g u pool = by_cond (λ (p : Pool). p.resources ≡ pool.resources) (may_unit_run g pool u && pools.is_unit_off pool u) _ _ (λ is. refl) (λ is. refl)

pub queue_units-domains : (g d : ℕ) (units : List ℕ) (pool : Pool) → (pool_with_queued_units g d units pool).domains ≡ pool.domains
queue_units-domains g d [] pool = refl
queue_units-domains g d (n ∷ ns) pool = queue_units-domains g d ns _ ∙ queue_if_off-domains g (record { dom = domain_number d; n = n }) pool

pub queue_units-resources : (g d : ℕ) (units : List ℕ) (pool : Pool) → (pool_with_queued_units g d units pool).resources ≡ pool.resources
queue_units-resources g d [] pool = refl
queue_units-resources g d (n ∷ ns) pool = queue_units-resources g d ns _ ∙ queue_if_off-resources g (record { dom = domain_number d; n = n }) pool

pub with_domain-domains : (g t d : ℕ) (x : Domain) (params : DomParams) (pool : Pool) → (pool_with_domain g t d x params pool).domains ≡ put_at d x pool.domains
with_domain-domains g t d x params pool = queue_units-domains g d (numbers_from 0 (pools.domain_unit_count g x)) _

pub with_domain-resources : (g t d : ℕ) (x : Domain) (params : DomParams) (pool : Pool) → (pool_with_domain g t d x params pool).resources ≡ pool.resources
with_domain-resources g t d x params pool = queue_units-resources g d (numbers_from 0 (pools.domain_unit_count g x)) _

-- what each pin keeps, all do
pub pins_keep : (I : Pool → Type 0) → ((d n : ℕ) (cores : Cores) (pool : Pool) → I pool → I (changed_pool (changes.Pin (domain_number d) (Some n) cores) 0 pool)) → (d n : ℕ) (pins : List Cores) (pool : Pool) → I pool → I (pool_with_pins d n pins pool)
pins_keep I keeps d n [] pool here = here
pins_keep I keeps d n (cores ∷ pins) pool here = pins_keep I keeps d (suc n) pins (changed_pool (changes.Pin (domain_number d) (Some n) cores) 0 pool) (keeps d n cores pool here)

pub with_pins-domains : (d n : ℕ) (pins : List Cores) (pool : Pool) → (pool_with_pins d n pins pool).domains ≡ pool.domains
with_pins-domains d n pins pool = pins_keep (λ p. p.domains ≡ pool.domains) (λ e k cores p same. same) d n pins pool refl

pub with_pins-resources : (d n : ℕ) (pins : List Cores) (pool : Pool) → (pool_with_pins d n pins pool).resources ≡ pool.resources
with_pins-resources d n pins pool = pins_keep (λ p. p.resources ≡ pool.resources) (λ e k cores p same. same) d n pins pool refl

pub with_configured-domains : (g d : ℕ) (joining : DomConfig) (pool : Pool) → (pool_with_configured g d joining pool).domains ≡ put_at d (domain_at_opening joining) pool.domains
with_configured-domains g d joining pool =
    with_pins-domains d 0 joining.pins (pool_with_domain g 0 d (domain_at_opening joining) joining.params pool) ∙ with_domain-domains g 0 d (domain_at_opening joining) joining.params pool

pub with_configured-resources : (g d : ℕ) (joining : DomConfig) (pool : Pool) → (pool_with_configured g d joining pool).resources ≡ pool.resources
with_configured-resources g d joining pool =
    with_pins-resources d 0 joining.pins (pool_with_domain g 0 d (domain_at_opening joining) joining.params pool) ∙ with_domain-resources g 0 d (domain_at_opening joining) joining.params pool

-- what each domain keeps that joins at its home, all do
pub domains_keep : (g i : ℕ) (I : Pool → Type 0) (d : ℕ) (domains : List DomConfig)
    → ((k : ℕ) (joining : DomConfig) (pool : Pool) → slice_get domains k ≡ Some joining → joining.home.0 ≡ i → I pool → I (pool_with_configured g (d + k) joining pool)) → (pool : Pool) → I pool → I (pool_with_domains g i d domains pool)
domains_keep g i I d [] joins pool here = here
domains_keep g i I d (joining ∷ domains) joins pool here =
    domains_keep g i I (suc d) domains (λ k x p at home kept. let e : d + suc k ≡ suc d + k = omega arith in subst (λ n. I (pool_with_configured g n x p)) e (joins (suc k) x p at home kept)) (cond (joining.home.0 == i) (pool_with_configured g d joining pool) pool)
    (by_cond I (joining.home.0 == i) (pool_with_configured g d joining pool) pool
    (λ same. (let e : d + 0 ≡ d = omega arith in subst (λ n. I (pool_with_configured g n joining pool)) e (joins 0 joining pool refl (grind (arith, same)) here))) (λ other. here))

-- the places from a number on are empty
abbrev pub EmptyFrom : ℕ → Pool → Type 0
EmptyFrom d pool = (e : ℕ) → d ≤ e → at_place pool.domains e ≡ None

EmptyFrom-configured : (g d : ℕ) (joining : DomConfig) (pool : Pool) → EmptyFrom d pool → EmptyFrom (suc d) (pool_with_configured g d joining pool)
EmptyFrom-configured g d joining pool empty e past =
    rw with_configured-domains (is_empty (at_place (put_at d (domain_at_opening joining) pool.domains) e) (λ x at. elim (read_put_at d e (domain_at_opening joining) pool.domains x at) [
      | inl was ↦ (let none : at_place pool.domains e ≡ None = empty e (omega arith) in cc)
      | inr r ↦ absurd (omega (arith, r.0))
    ]))

module _ (g : ℕ) (I : Pool → Type 0) (kept : IsKept g I) where
  kept_configured : (d : ℕ) (joining : DomConfig) (pool : Pool) → at_place pool.domains d ≡ None → I pool → I (pool_with_configured g d joining pool)
  kept_configured d joining pool none here = pins_keep I (λ e n cores. kept.inside.changes (changes.Pin (domain_number e) (Some n) cores) 0) d 0 joining.pins _ (kept.domain_comes 0 d (domain_at_opening joining) joining.params pool refl none here)

  kept_domains : (i d : ℕ) (domains : List DomConfig) (pool : Pool) → EmptyFrom d pool → I pool → I (pool_with_domains g i d domains pool)
  kept_domains i d [] pool empty here = here
  kept_domains i d (joining ∷ domains) pool empty here =
      let next : Pool = cond (joining.home.0 == i) (pool_with_configured g d joining pool) pool in
      kept_domains i (suc d) domains next
      (by_cond (EmptyFrom (suc d)) (joining.home.0 == i) (pool_with_configured g d joining pool) pool (λ is. EmptyFrom-configured g d joining pool empty) (λ is e past. empty e (omega arith)))
      (by_cond I (joining.home.0 == i) (pool_with_configured g d joining pool) pool (λ is. kept_configured d joining pool (empty d (omega arith)) here) (λ is. here))

pub length_map_numbers : {X : Type 0} (f : ℕ → X) (k n : ℕ) → length (map f (numbers_from k n)) ≡ n
length_map_numbers f k zero = refl
length_map_numbers f k (suc n) = (let e = length_map_numbers f (suc k) n in grind (arith, e))

-- what stands at a place of a list made from the numbers
pub read_map : {X : Type 0} (f : ℕ → Option X) (k n i : ℕ) (x : X) → at_place (map f (numbers_from k n)) i ≡ Some x → f (k + i) ≡ Some x
read_map f k zero i x at = absurd (cc)
read_map f k (suc n) zero x at = let e : k + 0 ≡ k = omega arith in rw e at
read_map f k (suc n) (suc i) x at = let e : k + suc i ≡ suc k + i = omega arith in rw e (read_map f (suc k) n i x at)

-- what stands at a place of the opening's pools
pub read_pools : (config : Config) (k spare : ℕ) (pools : List PoolConfig) (i : ℕ) (x : Pool) → at_place (pools_at_opening config k pools ++ replicate spare None) i ≡ Some x → (p : PoolConfig) × (slice_get pools i ≡ Some p) × (x ≡ pool_at_opening config (k + i) p)
read_pools config k spare [] i x at = absurd (EachPlace-empty {X = Pool} (λ y. ⊥) spare i x at)
read_pools config k spare (p ∷ pools) zero x at = let e : k + 0 ≡ k = omega arith in (p, refl, rw e (cc))
read_pools config k spare (p ∷ pools) (suc i) x at =
    let r = read_pools config (suc k) spare pools i x at in
    let e : k + suc i ≡ suc k + i = omega arith in
    (r.0, r.1, rw e r.2)

read_core : (config : Config) (pool : PoolConfig) (r : ℕ) (c : Resource) → at_place (map (λ r. cond (has_core_bit pool.cores r) (Some (joined_core (replicate config.granularity (moment 0)))) None) (numbers_from 0 (machine_core_count config))) r ≡ Some c
    → (has_core_bit pool.cores r ≡ true) × (joined_core (replicate config.granularity (moment 0)) ≡ c)
read_core config pool r c at =
    let e : 0 + r ≡ r = omega arith in
    cond_some (has_core_bit pool.cores r) _ c (rw e at (read_map (λ r. cond (has_core_bit pool.cores r) (Some (joined_core (replicate config.granularity (moment 0)))) None) 0 (machine_core_count config) r c at))

pub with_domains-resources : (g i d : ℕ) (domains : List DomConfig) (pool : Pool) → (pool_with_domains g i d domains pool).resources ≡ pool.resources
with_domains-resources g i d domains pool = domains_keep g i (λ p. p.resources ≡ pool.resources) d domains (λ k joining p at home same. with_configured-resources g (d + k) joining p ∙ same) pool refl

-- a domain of the pool i is one whose home is i
with_domains-home : (g i d : ℕ) (domains : List DomConfig) (pool : Pool) (e : ℕ) (x : Domain) → at_place (pool_with_domains g i d domains pool).domains e ≡ Some x
    → ((y : Domain) × (at_place pool.domains e ≡ Some y)) ⊎ ((j : ℕ) × (c : DomConfig) × (e ≡ d + j) × (slice_get domains j ≡ Some c) × (c.home.0 ≡ i))
with_domains-home g i d [] pool e x at = inl (x, at)
with_domains-home g i d (joining ∷ domains) pool e x at =
    elim (with_domains-home g i (suc d) domains (cond (joining.home.0 == i) (pool_with_configured g d joining pool) pool) e x at) [
      | inl before ↦ with_domains-step g i d joining domains pool e before.0 before.1
      | inr r ↦ inr (suc r.0, r.1, omega (arith, r.2), r.3, r.4)
    ]
  where
    with_domains-step : (g i d : ℕ) (joining : DomConfig) (domains : List DomConfig) (pool : Pool) (e : ℕ) (y : Domain) → at_place (cond (joining.home.0 == i) (pool_with_configured g d joining pool) pool).domains e ≡ Some y
        → ((y : Domain) × (at_place pool.domains e ≡ Some y)) ⊎ ((j : ℕ) × (c : DomConfig) × (e ≡ d + j) × (slice_get (joining ∷ domains) j ≡ Some c) × (c.home.0 ≡ i))
    with_domains-step g i d joining domains pool e y at =
        by_cond (λ (p : Pool). at_place p.domains e ≡ Some y → ((z : Domain) × (at_place pool.domains e ≡ Some z)) ⊎ ((j : ℕ) × (c : DomConfig) × (e ≡ d + j) × (slice_get (joining ∷ domains) j ≡ Some c) × (c.home.0 ≡ i)))
        (joining.home.0 == i) (pool_with_configured g d joining pool) pool
        (λ is has. elim (read_put_at d e (domain_at_opening joining) pool.domains y (rw with_configured-domains at has)) [
          | inl was ↦ inl (y, was)
          | inr r ↦ inr (0, joining, omega (arith, r.0), refl, grind (arith, is))
        ])
        (λ is has. inl (y, has)) at

pub opened_domain : (config : Config) (i : ℕ) (p : PoolConfig) (d : ℕ) (x : Domain) → at_place (pool_at_opening config i p).domains d ≡ Some x → (c : DomConfig) × (slice_get config.domains d ≡ Some c) × (c.home.0 ≡ i)
opened_domain config i p d x at =
    elim (with_domains-home config.granularity i 0 config.domains _ d x at) [
      | inl before ↦ absurd (EachPlace-empty {X = Domain} (λ y. ⊥) (length config.domains) d before.0 before.1)
      | inr r ↦ (let e : d ≡ r.0 = omega (arith, r.2) in (r.1, rw e r.3, r.4))
    ]

pub opened_core : (config : Config) (i : ℕ) (p : PoolConfig) (r : ℕ) (c : Resource) → at_place (pool_at_opening config i p).resources r ≡ Some c → has_core_bit p.cores r ≡ true
opened_core config i p r c at = (read_core config p r c (rw with_domains-resources at at)).0

module _ (m : Machine) (I : Pool → Type 0) (kept : IsKept m.config.granularity I) where
  kept_opening_pool : (i : ℕ) (pool : PoolConfig) → I (pool_at_opening m.config i pool)
  kept_opening_pool i pool =
      kept_domains m.config.granularity I kept i 0 m.config.domains _ (λ e past. is_empty _ (λ x at. EachPlace-empty {X = Domain} (λ y. ⊥) (length m.config.domains) e x at))
      (kept.opens m.config pool.params _ (length_map_numbers _ 0 (machine_core_count m.config)) (λ r c at. (replicate m.config.granularity (moment 0), sym (read_core m.config pool r c at).1)))

  pub kept_opening : EachPlace I (opening m).pools
  kept_opening i x at =
      let r = read_pools m.config 0 (most_pools - length m.config.pools) m.config.pools i x at in
      subst I (sym r.2) (kept_opening_pool (0 + i) r.0)

-- what the pins keep, and each checked domain that joins, the domains of the file do
pub opened_keeps : (m : Machine) → IsChecked m → (i : ℕ) (p : PoolConfig) → slice_get m.config.pools i ≡ Some p → (I : Pool → Type 0)
    → ((d : ℕ) (joining : DomConfig) (pool : Pool) → slice_get m.config.domains d ≡ Some joining → IsCheckedDomain m.config joining → DomParamsPass p.kind joining.params → I pool → I (pool_with_domain m.config.granularity 0 d (domain_at_opening joining) joining.params pool))
    → ((d n : ℕ) (cores : Cores) (pool : Pool) → I pool → I (changed_pool (changes.Pin (domain_number d) (Some n) cores) 0 pool)) → (pool : Pool) → I pool → I (pool_with_domains m.config.granularity i 0 m.config.domains pool)
opened_keeps m checked i p is I joins pins pool here =
    domains_keep m.config.granularity i I 0 m.config.domains (λ k joining next at home kept. (
    let e : k ≡ 0 + k = omega arith in
    let domain = each_get (IsCheckedDomain m.config) m.config.domains k joining (recursion_from_All (IsCheckedDomain m.config) m.config.domains checked.config.domains) at in
    let passed = (domain.home_pool p (subst (λ j. slice_get m.config.pools j ≡ Some p) (sym home) is)).1 in
    subst (λ n. I (pool_with_configured m.config.granularity n joining next)) e (pins_keep I pins k 0 joining.pins _ (joins k joining next at domain passed kept)))) pool here

opened_core_at : (m : Machine) (i r : ℕ) → has_core_at (opening m) i r ≡ true → (p : PoolConfig) × (slice_get m.config.pools i ≡ Some p) × (has_core_bit p.cores r ≡ true)
opened_core_at m i r has =
    let p = some-test_at (opening m).pools i (λ p. is_some (at_place p.resources r)) has in
    let c = some_is (at_place p.0.resources r) p.2 in
    let q = read_pools m.config 0 (most_pools - length m.config.pools) m.config.pools i p.0 p.1 in
    (q.0, q.1, opened_core m.config (0 + i) q.0 r c.0 (subst (λ (x : Pool). at_place x.resources r ≡ Some c.0) q.2 c.1))

opened_domain_at : (m : Machine) (i d : ℕ) → has_domain_at (opening m) i d ≡ true → (c : DomConfig) × (slice_get m.config.domains d ≡ Some c) × (c.home.0 ≡ i)
opened_domain_at m i d has =
    let p = some-test_at (opening m).pools i (λ p. is_some (at_place p.domains d)) has in
    let x = some_is (at_place p.0.domains d) p.2 in
    let q = read_pools m.config 0 (most_pools - length m.config.pools) m.config.pools i p.0 p.1 in
    let r = opened_domain m.config (0 + i) q.0 d x.0 (subst (λ (y : Pool). at_place y.domains d ≡ Some x.0) q.2 x.1) in
    (r.0, r.1, omega (arith, r.2))

pub apart_opening : (m : Machine) → IsChecked m → IsApart (opening m)
apart_opening m checked = record {
  cores = λ i j r a b. (let p = opened_core_at m i r a in let q = opened_core_at m j r b in checked.config.cores_apart i j r p.0 q.0 p.1 q.1 p.2 q.2);
  domains = λ i j d a b. (
      let p = opened_domain_at m i d a in
      let q = opened_domain_at m j d b in
      let e : p.0 ≡ q.0 = cc in
      sym p.2 ∙ ap (λ (c : DomConfig). c.home.0) e ∙ q.2);
  free = λ i r a b. (
      let p = opened_core_at m i r b in
      let c = some_is (at_place (opening m).free r) a in
      let e : 0 + r ≡ r = omega arith in
      let f : free_core_at_opening m.config r ≡ Some c.0 = rw e at (read_map (free_core_at_opening m.config) 0 (machine_core_count m.config) r c.0 c.1) in
      let none = each_get (λ (q : PoolConfig). has_core_bit q.cores r ≡ false) m.config.pools i p.0 (none_passes _ m.config.pools (free_none m.config r c.0 f)) p.1 in
      absurd (cc));
}
  where
    free_none : (config : Config) (r : ℕ) (c : FreeCore) → free_core_at_opening config r ≡ Some c → list_any (λ (pool : PoolConfig). has_core_bit pool.cores r) config.pools ≡ false
    free_none config r c at =
        by_cond (λ (o : Option FreeCore). o ≡ Some c → list_any (λ (pool : PoolConfig). has_core_bit pool.cores r) config.pools ≡ false) (list_any (λ (pool : PoolConfig). has_core_bit pool.cores r) config.pools) None _
        (λ is e. absurd (cc)) (λ is e. is) at

-- how many units the domain of the file has, and those after it
pub units_from-more : (g d : ℕ) (c : DomConfig) (configs : List DomConfig) → length (units_from g d (c ∷ configs)) ≡ (length c.guests + g - 1) / g + length (units_from g (suc d) configs)
units_from-more g d c configs =
    let unit : ℕ → UnitId = λ n. record { dom = domain_number d; n = n } in
    length-append (map unit (numbers_from 0 ((length c.guests + g - 1) / g))) (units_from g (suc d) configs)
    ∙ ap (λ k. k + length (units_from g (suc d) configs)) (length_map_numbers unit 0 ((length c.guests + g - 1) / g))

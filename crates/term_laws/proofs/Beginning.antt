-- The opening: no core has a unit, and the records of RTDS units are as they begin their first terms.
use Rattle.std.proofs.Common.{◌≡◌, ◌+◌, ◌-◌, ℕ, zero, suc, Bool, true, false, List, [], ◌∷◌, length, refl, arith, ap, subst, sym, ◌∙◌, inl, inr, cond, replicate}
use Rattle.std.specs.Prelude.{Option, Some, None, option_map, is_some, map, slice_get, ◌&&◌}
use Rattle.sched_base.specs.Numbers.{moment, domain as domain_number}
use Rattle.sched_base.specs.declared.UnitId.{UnitId}
use Rattle.sched_base.specs.declared.Cores.{Cores}
use Rattle.sched_model.specs.declared.config.DomConfig.{DomConfig}
use Rattle.sched_model.specs.declared.config.PoolParams.{PoolParams}
use Rattle.sched_model.specs.declared.config.PoolParams.TheVariants as pool_params
use Rattle.sched_model.specs.declared.config.DomParams.{DomParams}
use Rattle.sched_model.specs.declared.config.DomParams.TheVariants as dom_params
use Rattle.sched_model.specs.declared.config.ParamChange.TheVariants as changes
use Rattle.sched_model.specs.declared.machine.Machine.{Machine}
use Rattle.sched_model.specs.declared.state.Pool.{Pool}
use Rattle.sched_model.specs.declared.state.Domain.{Domain}
use Rattle.sched_model.specs.declared.state.Resource.{Resource}
use Rattle.sched_model.specs.declared.state.RtdsUnit.{RtdsUnit}
use Rattle.sched_model.specs.declared.state.Records.{Records}
use Rattle.sched_model.specs.declared.state.Records.TheVariants.{Credit2Pool, RtdsPool}
use Rattle.sched_model.specs.Places.{at_place, put_at, test_at, numbers_from}
use Rattle.sched_model.specs.State.{may_unit_run, has_core_bit}
use Rattle.sched_model.specs.EligibleUnits.{rtds_unit_at}
use Rattle.sched_model.specs.Policy as policy
use Rattle.sched_model.specs.Policy.{joined_records, changed_records, empty_records, unit_rtds_record}
use Rattle.sched_model.specs.Rtds as rtds
use Rattle.sched_model.specs.Pool.{pool_with_queued_units, pool_with_queued_if_off, pool_with_domain, is_unit_off, domain_unit_count}
use Rattle.sched_model.specs.Opening.{opening, pool_with_domains, pool_with_configured, most_pools, machine_core_count, joined_core, fresh_pool, vcpu_at_opening}
use Rattle.sched_laws.proofs.EachPlace.{by_cond, read_put_at, EachPlace-empty}
use Rattle.sched_laws.proofs.Lists.{test_at-some, some_same}
use Rattle.sched_laws.proofs.Opened.{read_pools, read_map, with_domains-resources, pins_keep, domains_keep}
use Rattle.composition_laws.proofs.Alike.{mover_of}
use Rattle.term_laws.proofs.Same.{cur_in}
use Rattle.term_laws.proofs.Deciding.{cur_core}

-- no core has a unit at the opening
pub nobody_runs : (m : Machine) (i : ℕ) (p : Pool) → at_place (opening m).pools i ≡ Some p → (r : ℕ) (u : UnitId) → cur_in (at_place p.resources r) ≡ Some u → ⊥
nobody_runs m i p at r u is =
    let q = read_pools m.config 0 (most_pools - length m.config.pools) m.config.pools i p at in
    let f : ℕ → Option Resource = λ n. cond (has_core_bit q.0.cores n) (Some (joined_core (replicate m.config.granularity (moment 0)))) None in
    let cores = ap (λ (x : Pool). x.resources) q.2 ∙ with_domains-resources m.config.granularity (0 + i) 0 m.config.domains (record (fresh_pool m.config q.0.params) { resources = map f (numbers_from 0 (machine_core_count m.config)) }) in
    let c = cur_core (at_place p.resources r) u is in
    let there = read_map f 0 (machine_core_count m.config) r c.0 (sym (ap (λ (l : List (Option Resource)). at_place l r) cores) ∙ c.1) in
    by_cond (λ (o : Option Resource). o ≡ Some c.0 → ⊥) (has_core_bit q.0.cores (0 + r)) _ _ (λ yes_core e. (let none : c.0.cur ≡ None = fresh_cur c.0 (some_same e) in let e2 : None ≡ Some u = sym none ∙ c.2 in cc)) (λ no_core e. cc) there
  where
    fresh_cur : (c : Resource) → joined_core (replicate m.config.granularity (moment 0)) ≡ c → c.cur ≡ None
    fresh_cur c e = sym (ap (λ (x : Resource). x.cur) e)

-- the pool that has the domain
pub home_pool_of : (o : Option Pool) (d : ℕ) → is_some (mover_of o d) ≡ true → (p : Pool) × (o ≡ Some p) × (test_at p.domains d (λ x. true) ≡ true)
home_pool_of None d is = absurd (cc)
home_pool_of (Some p) d is = (p, refl, by_domain (at_place p.domains d) refl is)
  where
    by_domain : (o2 : Option Domain) → at_place p.domains d ≡ o2 → is_some (option_map (λ (x : Domain). x.moving) o2) ≡ true → test_at p.domains d (λ x. true) ≡ true
    by_domain None is2 e2 = absurd (cc)
    by_domain (Some x) is2 e2 = test_at-some p.domains d (λ x. true) x is2 refl

-- a record of a unit that has just joined at 0: its budget is full, and its deadline is one period ahead
pub record IsFull (x : RtdsUnit) : Type 0 where
  pub left : x.left ≡ x.budget
  pub deadline : x.deadline ≡ x.period

abbrev pub AllFull : Records → Type 0
AllFull records = (u : UnitId) (x : RtdsUnit) → unit_rtds_record records u ≡ Some x → IsFull x

get_replicate : (n i : ℕ) (y x : RtdsUnit) → slice_get (replicate n y) i ≡ Some x → y ≡ x
get_replicate zero i y x at = absurd (cc)
get_replicate (suc n) zero y x at = cc
get_replicate (suc n) (suc i) y x at = get_replicate n i y x at

-- the units of a domain that joins
full_put : (d count : ℕ) (period budget : ℕ) (extra : Bool) (domains : List (Option (List RtdsUnit))) → ((u : UnitId) (x : RtdsUnit) → rtds_unit_at domains u ≡ Some x → IsFull x)
    → (u : UnitId) (x : RtdsUnit) → rtds_unit_at (put_at d (rtds.fresh_rtds_units period budget extra count 0) domains) u ≡ Some x → IsFull x
full_put d count period budget extra domains full u x at = go (at_place (put_at d (rtds.fresh_rtds_units period budget extra count 0) domains) u.dom.0) refl at
  where
    go : (o : Option (List RtdsUnit)) → at_place (put_at d (rtds.fresh_rtds_units period budget extra count 0) domains) u.dom.0 ≡ o → elim o as (λ _. Option RtdsUnit) [ None ↦ None | Some units ↦ slice_get units u.n ] ≡ Some x → IsFull x
    go None is at2 = absurd (cc)
    go (Some units) is at2 =
        elim (read_put_at d u.dom.0 (rtds.fresh_rtds_units period budget extra count 0) domains units is) [
          | inl was ↦ full u x (ap (λ (o : Option (List RtdsUnit)). elim o as (λ _. Option RtdsUnit) [ None ↦ None | Some us ↦ slice_get us u.n ]) was ∙ at2)
          | inr new ↦ (
              let y : RtdsUnit = record { period = period; budget = budget; extra = extra; next_period = period; next_budget = budget; next_extra = extra; deadline = 0 + period; left = budget; level = 0; burned = None } in
              let at3 : slice_get (replicate count y) u.n ≡ Some x = subst (λ (us : List RtdsUnit). slice_get us u.n ≡ Some x) (sym new.1) at2 in
              let e = get_replicate count u.n y x at3 in
              subst IsFull e (record { left = refl; deadline = omega arith }))
        ]

full_joined : (records : Records) (params : DomParams) (d count : ℕ) → AllFull records → AllFull (joined_records records params d count 0)
full_joined (RtdsPool domains) (dom_params.Rtds period budget extra) d count full = full_put d count period.0 budget.0 extra domains full
full_joined (Credit2Pool own) (dom_params.Credit2 weight percent) d count full = λ u x is. absurd (cc)
full_joined records params d count full = full

pub queue_keeps : (g d : ℕ) (ns : List ℕ) (pool : Pool) → (pool_with_queued_units g d ns pool).scheduler.records ≡ pool.scheduler.records
queue_keeps g d [] pool = refl
queue_keeps g d (n ∷ ns) pool =
    let u : UnitId = record { dom = domain_number d; n = n } in
    queue_keeps g d ns (pool_with_queued_if_off g u pool) ∙ by_cond (λ (q : Pool). q.scheduler.records ≡ pool.scheduler.records) (may_unit_run g pool u && is_unit_off pool u) _ _ (λ is. refl) (λ is. refl)

pub pin_keeps : (records : Records) (d : ℕ) (n : ℕ) (cores : Cores) → changed_records records (changes.Pin (domain_number d) (Some n) cores) 0 ≡ records
pin_keeps (Credit2Pool records) d n cores = refl
pin_keeps records d n cores = refl

-- what the records keep while a domain joins, they keep while the domains of the file do
module _ (Q : Records → Type 0) (joined : (records : Records) (params : DomParams) (d count : ℕ) → Q records → Q (joined_records records params d count 0)) where
  configured_keep : (g d : ℕ) (joining : DomConfig) (pool : Pool) → Q pool.scheduler.records → Q (pool_with_configured g d joining pool).scheduler.records
  configured_keep g d joining pool here =
      let x : Domain = record { paused = false; moving = None; vcpus = map vcpu_at_opening joining.guests } in
      let put : Pool = record pool { domains = put_at d x pool.domains; scheduler = policy.joined_scheduler d (domain_unit_count g x) joining.params 0 pool.scheduler } in
      subst Q (sym (pins_keep (λ (p : Pool). p.scheduler.records ≡ (pool_with_domain g 0 d x joining.params pool).scheduler.records) (λ e n cores p same. pin_keeps p.scheduler.records e n cores ∙ same) d 0 joining.pins (pool_with_domain g 0 d x joining.params pool) refl ∙ queue_keeps g d (numbers_from 0 (domain_unit_count g x)) put))
      (joined pool.scheduler.records joining.params d (domain_unit_count g x) here)

  records_keep : (g i d : ℕ) (domains : List DomConfig) (pool : Pool) → Q pool.scheduler.records → Q (pool_with_domains g i d domains pool).scheduler.records
  records_keep g i d domains = domains_keep g i (λ p. Q p.scheduler.records) d domains (λ k joining pool at home here. configured_keep g (d + k) joining pool here)

full_fresh : (params : PoolParams) (domains cores : ℕ) → AllFull (empty_records params domains cores)
full_fresh pool_params.Rtds n cores u x at = none (at_place (replicate n None) u.dom.0) refl at
  where
    none : (o : Option (List RtdsUnit)) → at_place (replicate n None) u.dom.0 ≡ o → elim o as (λ _. Option RtdsUnit) [ None ↦ None | Some units ↦ slice_get units u.n ] ≡ Some x → IsFull x
    none None e at2 = absurd (cc)
    none (Some units) e at2 = absurd (EachPlace-empty {X = List RtdsUnit} (λ y. ⊥) n u.dom.0 units e)
full_fresh other n cores u x at = absurd (cc)

-- what fresh records have, and the records keep while a domain joins, the records have at the opening
pub records_at_first : (Q : Records → Type 0) → ((records : Records) (params : DomParams) (d count : ℕ) → Q records → Q (joined_records records params d count 0)) → ((params : PoolParams) (domains cores : ℕ) → Q (empty_records params domains cores))
    → (m : Machine) (i : ℕ) (p : Pool) → at_place (opening m).pools i ≡ Some p → Q p.scheduler.records
records_at_first Q joined fresh m i p at =
    let q = read_pools m.config 0 (most_pools - length m.config.pools) m.config.pools i p at in
    subst (λ (x : Pool). Q x.scheduler.records) (sym q.2) (records_keep Q joined m.config.granularity (0 + i) 0 m.config.domains _ (fresh q.0.params (length m.config.domains) (machine_core_count m.config)))

-- each RTDS record at the opening
pub full_opening : (m : Machine) (i : ℕ) (p : Pool) → at_place (opening m).pools i ≡ Some p → AllFull p.scheduler.records
full_opening = records_at_first AllFull full_joined full_fresh

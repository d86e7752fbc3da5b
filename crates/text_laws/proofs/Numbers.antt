-- What is known of the numbers of a state, as far as entries print them.
use Rattle.sched_laws.proofs.Lists.{some_is}
use Rattle.std.proofs.lemmas.Option.{slice_get_within}
use Rattle.std.proofs.Common.{◌≡◌, ◌<◌, ◌≤◌, ◌*◌, ◌/◌, ℕ, suc, true, List, [], ◌∷◌, arith, ◌∙◌, ap, length}
use Rattle.std.specs.Prelude.{Option, Some, None, is_some, option_map, slice_get}
use Rattle.std.proofs.lemmas.List.Elements.{recursion_from_All}
use Rattle.std.specs.Option.{IfSome}
use Rattle.sched_base.specs.declared.UnitId.{UnitId}
use Rattle.sched_base.specs.declared.VcpuId.{VcpuId}
use Rattle.sched_base.specs.declared.PoolId.{PoolId}
use Rattle.sched_base.proofs.Lists.{each_get}
use Rattle.sched_model.specs.declared.machine.Machine.{Machine}
use Rattle.sched_model.specs.declared.config.DomConfig.{DomConfig}
use Rattle.sched_model.specs.declared.state.State.{State}
use Rattle.sched_model.specs.declared.state.Pool.{Pool}
use Rattle.sched_model.specs.declared.state.Domain.{Domain}
use Rattle.sched_model.specs.declared.state.Resource.{Resource}
use Rattle.sched_model.specs.declared.state.FreeCore.{FreeCore}
use Rattle.sched_model.specs.declared.state.Vcpu.{Vcpu}
use Rattle.sched_model.specs.Places.{at_place, numbered_items}
use Rattle.sched_model.specs.Opening.{machine_core_count}
use Rattle.sched_model.specs.CheckedMachine.{IsChecked, IsCheckedDomain, most_span}
use Rattle.sched_model.specs.Actions.{home_pool_of_core}
use Rattle.sched_model.specs.Pool.{pool_vcpu}
use Rattle.sched_laws.proofs.EachPlace.{place_below, found_at, by_option}
use Rattle.state_ranges.specs.Ranges.{IsUnitOf, PoolInRange, StateInRange}
use Rattle.state_ranges.proofs.RangesLaw.{StateFits}
use Rattle.composition_laws.proofs.Housed.{Housed}
use Rattle.sched_print.specs.Ranges.{IsUnit, IsVcpu, IsPool}
use Rattle.sched_laws.proofs.Granularity.{by_granularity}

-- what is known of a state that a run leads to
pub record Known (m : Machine) (s : State) : Type 0 where
  pub range : StateInRange m s
  pub fits : StateFits m s
  pub housed : Housed m s

pub numbered_few : {X : Type 0} (n : ℕ) (places : List (Option X)) → length (numbered_items n places) ≤ length places
numbered_few n [] = omega arith
numbered_few n (None ∷ places) = (let r = numbered_few (suc n) places in omega (arith, r))
numbered_few n (Some x ∷ places) = (let r = numbered_few (suc n) places in omega (arith, r))

module _ (m : Machine) (checked : IsChecked m) where
  pub times_few : (n : ℕ) → n ≤ 64 → n * m.config.granularity ≤ 256
  times_few n low = by_granularity (λ g. n * g ≤ 256) m.config.granularity checked.config.granularity (omega (arith, low)) (omega (arith, low)) (omega (arith, low))

  pub cores_few : machine_core_count m.config ≤ 64
  cores_few =
      let most = checked.config.processors.most in
      by_granularity (λ g. m.config.processors / g ≤ 64) m.config.granularity checked.config.granularity (omega (arith, most)) (omega (arith, most)) (omega (arith, most))

  -- a processor of a core
  pub processor_low : (p : ℕ) → p / m.config.granularity < machine_core_count m.config → p < 64
  processor_low p low =
      let most = checked.config.processors.most in
      by_granularity (λ g. p / g < m.config.processors / g → p < 64) m.config.granularity checked.config.granularity (λ l. omega (arith, most, l)) (λ l. omega (arith, most, l)) (λ l. omega (arith, most, l)) low

  domain_is : (d : ℕ) (config : DomConfig) → slice_get m.config.domains d ≡ Some config → IsCheckedDomain m.config config
  domain_is d config at = each_get (IsCheckedDomain m.config) m.config.domains d config (recursion_from_All (IsCheckedDomain m.config) m.config.domains checked.config.domains) at

  -- a unit of the machine
  pub unit_low : (u : UnitId) → IsUnitOf m u → IsUnit u
  unit_low u is =
      let inside = slice_get_within m.config.domains u.dom.0 is.config is.at in
      let few = checked.config.few_domains in
      let guests = (domain_is u.dom.0 is.config is.at).few_guests in (
        omega (arith, inside, few),
        by_granularity (λ g. u.n * g < length is.config.guests → u.n < 32) m.config.granularity checked.config.granularity (λ l. omega (arith, guests, l)) (λ l. omega (arith, guests, l)) (λ l. omega (arith, guests, l)) is.inside,
      )

  pub if_unit_low : (o : Option UnitId) → IfSome o (IsUnitOf m) → IfSome o IsUnit
  if_unit_low None is = tt
  if_unit_low (Some u) is = unit_low u is

  module _ (t : ℕ) (pool : Pool) (range : PoolInRange m t pool) where
    pub domain_low : (d : ℕ) (x : Domain) → at_place pool.domains d ≡ Some x → d < 64
    domain_low d x at = (let b = place_below pool.domains d x at in let e = range.domain_places in let few = checked.config.few_domains in omega (arith, b, e, few))

    pub core_inside : (r : ℕ) (c : Resource) → at_place pool.resources r ≡ Some c → r < machine_core_count m.config
    core_inside r c at = (let b = place_below pool.resources r c at in let e = range.core_places in omega (arith, b, e))

    pub core_low : (r : ℕ) (c : Resource) → at_place pool.resources r ≡ Some c → r < 64
    core_low r c at = (let b = core_inside r c at in let few = cores_few in omega (arith, b, few))

    -- a vCPU that the pool has
    pub vcpu_low : (v : VcpuId) (x : Vcpu) → pool_vcpu pool v ≡ Some x → IsVcpu v
    vcpu_low v x is =
        by_option (λ (o : Option Vcpu). o ≡ Some x → IsVcpu v) (at_place pool.domains v.dom.0) None (λ d. slice_get d.vcpus v.n)
        (λ none e. absurd (cc))
        (λ d at e.
        let here = range.domains v.dom.0 d at in
        let inside = slice_get_within d.vcpus v.n x e in
        let count = here.count in
        let few = (domain_is v.dom.0 here.config here.at).few_guests in
        (domain_low v.dom.0 d at, omega (arith, inside, count, few))) is

  module _ (s : State) (known : Known m s) where
    pub now_low : s.now ≤ most_span
    now_low = (let a = known.range.now in let b = checked.config.horizon.most in omega (arith, a, b))

    pub pool_low : (i : ℕ) (pool : Pool) → at_place s.pools i ≡ Some pool → i < 16
    pool_low i pool at = (let b = place_below s.pools i pool at in let e = known.range.pool_places in omega (arith, b, e))

    pub home_low : (r i : ℕ) → home_pool_of_core s r ≡ Some i → i < 16
    home_low r i is = let f = found_at i (λ (pool : Pool). is_some (at_place pool.resources r)) s.pools is in pool_low i f.0 f.1

    there_low : (i : ℕ) → is_some (at_place s.pools i) ≡ true → i < 16
    there_low i is = let x = some_is (at_place s.pools i) is in pool_low i x.0 x.1

    -- the pool that a free core is to join, and the one that a domain moves to
    pub target_low : (r : ℕ) (c : FreeCore) (i : ℕ) → at_place s.free r ≡ Some c → c.target ≡ Some i → i < 16
    target_low r c i at is = there_low i (known.housed.aims r i (ap (option_map (λ (x : FreeCore). x.target)) at ∙ ap (λ (o : Option ℕ). Some o) is))

    pub mover_low : (i : ℕ) (pool : Pool) (d : ℕ) (x : Domain) (j : PoolId) → at_place s.pools i ≡ Some pool → at_place pool.domains d ≡ Some x → x.moving ≡ Some j → IsPool j
    mover_low i pool d x j at has moves =
        there_low j.0 (known.housed.movers i d j
        (ap (λ (o : Option Pool). elim o as (λ _. Option (Option PoolId)) [ None ↦ None | Some p ↦ option_map (λ (y : Domain). y.moving) (at_place p.domains d) ]) at
        ∙ ap (option_map (λ (y : Domain). y.moving)) has ∙ ap (λ (o : Option PoolId). Some o) moves))

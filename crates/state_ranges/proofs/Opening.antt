-- The opening: each domain of the file joins a pool of its scheduler.
use Rattle.std.proofs.Common.{◌≡◌, ◌<◌, ◌≤◌, ◌+◌, ◌-◌, ◌*◌, ◌/◌, ℕ, refl, arith, subst, sym, ◌∙◌, length}
use Rattle.std.specs.Prelude.{Some, slice_get}
use Rattle.std.proofs.lemmas.List.{length-map}
use Rattle.std.proofs.lemmas.List.Elements.{recursion_from_All}
use Rattle.std.proofs.lemmas.Nat.{le-div}
use Rattle.sched_base.specs.Numbers.{domain as domain_number}
use Rattle.sched_base.specs.declared.Cores.{Cores}
use Rattle.sched_base.proofs.Lists.{each_get}
use Rattle.sched_model.specs.declared.config.Config.{Config}
use Rattle.sched_model.specs.declared.config.PoolConfig.{PoolConfig}
use Rattle.sched_model.specs.declared.config.DomConfig.{DomConfig}
use Rattle.sched_model.specs.declared.config.SchedKind.{SchedKind}
use Rattle.sched_model.specs.declared.config.SchedKind.TheVariants as kinds
use Rattle.sched_model.specs.declared.config.PoolParams.{PoolParams}
use Rattle.sched_model.specs.declared.config.PoolParams.TheVariants as pool_params
use Rattle.sched_model.specs.declared.config.DomParams.{DomParams}
use Rattle.sched_model.specs.declared.config.DomParams.TheVariants as dom_params
use Rattle.sched_model.specs.declared.config.ParamChange.TheVariants as changes
use Rattle.sched_model.specs.declared.machine.Machine.{Machine}
use Rattle.sched_model.specs.declared.state.Records.{Records}
use Rattle.sched_model.specs.declared.state.Records.TheVariants.{Credit2Pool, RtdsPool, ArincPool, NullPool}
use Rattle.sched_model.specs.declared.state.Pool.{Pool}
use Rattle.sched_model.specs.Policy.{changed_records, empty_records, records_kind}
use Rattle.sched_model.specs.Pool.{domain_unit_count, pool_with_domain}
use Rattle.sched_model.specs.Opening.{opening, pool_at_opening, vcpu_at_opening, machine_core_count, domain_at_opening}
use Rattle.sched_model.specs.CheckedMachine.{IsChecked, IsCheckedPool, IsCheckedDomain, PoolParamsPass, DomParamsPass}
use Rattle.sched_laws.specs.EachPlace.{EachPlace}
use Rattle.sched_laws.proofs.Opened.{read_pools, opened_keeps}
use Rattle.sched_laws.proofs.SiblingsLaw.{some_processor}
use Rattle.state_ranges.specs.Counts.{Matches, KeepsPool}
use Rattle.state_ranges.proofs.RecordsWalk.{keeps_empty, k_set_params, k_with_domain}

-- the parameters that pass the checks are those of the scheduler
passed_match : (records : Records) (params : DomParams) → DomParamsPass (records_kind records) params → Matches records params
passed_match (Credit2Pool records) (dom_params.Credit2 weight percent) passed = tt
passed_match (RtdsPool domains) (dom_params.Rtds period budget extra) passed = tt
passed_match (ArincPool records) params passed = tt
passed_match (NullPool kept) params passed = tt
passed_match records params passed = absurd passed

fresh_kind : (config : Config) (kind : SchedKind) (params : PoolParams) (n cores : ℕ) → PoolParamsPass config kind params → records_kind (empty_records params n cores) ≡ kind
fresh_kind config kinds.Credit2 (pool_params.Credit2 limit) n cores passed = refl
fresh_kind config kinds.Rtds pool_params.Rtds n cores passed = refl
fresh_kind config kinds.Arinc653 (pool_params.Arinc653 frame) n cores passed = refl
fresh_kind config kinds.Null pool_params.Null n cores passed = refl
fresh_kind config kind params n cores passed = absurd passed

pin_kind : (records : Records) (d n t : ℕ) (cores : Cores) → records_kind (changed_records records (changes.Pin (domain_number d) (Some n) cores) t) ≡ records_kind records
pin_kind (Credit2Pool records) d n t cores = refl
pin_kind records d n t cores = refl

-- a domain with a vCPU has a unit
has_unit : (g n : ℕ) → 0 < g → 1 ≤ n → 1 ≤ (n + g - 1) / g
has_unit g n some low = le-div 1 (n + g - 1) g some (let e : 1 * g ≡ g = grind arith in omega (arith, e, low))

module _ (m : Machine) (checked : IsChecked m) where
  -- a pool of the scheduler, with the records of its domains
  abbrev Opens : SchedKind → Pool → Type 0
  Opens kind pool = KeepsPool m.config.granularity pool × (records_kind pool.scheduler.records ≡ kind)

  joining_unit : (joining : DomConfig) → IsCheckedDomain m.config joining → 1 ≤ domain_unit_count m.config.granularity (domain_at_opening joining)
  joining_unit joining domain =
      let whole : length (domain_at_opening joining).vcpus ≡ length joining.guests = length-map joining.guests vcpu_at_opening in
      let guest = domain.some_guest in
      has_unit m.config.granularity (length (domain_at_opening joining).vcpus) (some_processor m.config.granularity checked.config.granularity) (omega (arith, whole, guest))

  joined_opens : (p : PoolConfig) (d : ℕ) (joining : DomConfig) (pool : Pool) → IsCheckedDomain m.config joining → DomParamsPass p.kind joining.params → Opens p.kind pool → Opens p.kind (pool_with_domain m.config.granularity 0 d (domain_at_opening joining) joining.params pool)
  joined_opens p d joining pool domain passed opens =
      let good : Matches pool.scheduler.records joining.params = passed_match pool.scheduler.records joining.params (subst (λ (kind : SchedKind). DomParamsPass kind joining.params) (sym opens.1) passed) in
      let joins = k_with_domain m.config.granularity 0 d (domain_at_opening joining) joining.params pool good (joining_unit joining domain) opens.0 in
      (joins.0, joins.1 ∙ opens.1)

  pool_opens : (i : ℕ) (p : PoolConfig) → slice_get m.config.pools i ≡ Some p → KeepsPool m.config.granularity (pool_at_opening m.config i p)
  pool_opens i p is =
      let pool = each_get (IsCheckedPool m.config) m.config.pools i p (recursion_from_All (IsCheckedPool m.config) m.config.pools checked.config.pools) is in
      (opened_keeps m checked i p is (Opens p.kind) (λ d joining pool at. joined_opens p d joining pool)
      (λ d n cores pool opens. (k_set_params m.config.granularity (changes.Pin (domain_number d) (Some n) cores) 0 pool opens.0, pin_kind pool.scheduler.records d n 0 cores ∙ opens.1)) _
      (keeps_empty m.config.granularity (length m.config.domains) (machine_core_count m.config) p.params, fresh_kind m.config p.kind p.params (length m.config.domains) (machine_core_count m.config) pool.params)).0

  pub opening_keeps : EachPlace (KeepsPool m.config.granularity) (opening m).pools
  opening_keeps i pool at =
      let r = read_pools m.config 0 _ m.config.pools i pool at in
      let e : 0 + i ≡ i = omega arith in
      subst (KeepsPool m.config.granularity) (sym (subst (λ k. pool ≡ pool_at_opening m.config k r.0) e r.2)) (pool_opens i r.0 r.1)

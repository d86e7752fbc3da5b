-- What the plan of an accepted command finds in the state.
use Rattle.std.specs.Prelude.{◌≡◌, ◌≤◌, ◌<◌, ◌+◌, ◌/◌, ℕ, All, true, length, Option, Some, None, is_some}
use Rattle.std.specs.Option.{ForSome}
use Rattle.sched_base.specs.declared.Span.{Span}
use Rattle.sched_model.specs.declared.config.SchedKind.TheVariants as kinds
use Rattle.sched_model.specs.declared.machine.Machine.{Machine}
use Rattle.sched_model.specs.declared.plan.Plan.{Plan}
use Rattle.sched_model.specs.declared.plan.Plan.TheVariants as plan
use Rattle.sched_model.specs.declared.state.Pool.{Pool}
use Rattle.sched_model.specs.declared.state.RtdsUnit.{RtdsUnit}
use Rattle.sched_model.specs.declared.state.State.{State}
use Rattle.sched_model.specs.Places.{at_place}
use Rattle.sched_model.specs.CheckedMachine.{IsWithin}
use Rattle.sched_model.specs.Commands.{rtds_units}
use Rattle.sched_model.specs.Opening.{machine_core_count}
use Rattle.sched_model.specs.Policy.{records_kind}
use Rattle.sched_model.specs.Pool.{domain_unit_count}
use Rattle.sched_model.specs.Actions.{home_pool_of_core, home_pool_of_domain}
use Rattle.sched_laws.specs.RecordRanges.{IsFrame, IsWeight, IsCap}
pub use Rattle.sched_laws.specs.Finds.{IsThere, FindsPool, FindsDomain}

-- the pool has no core and no domain
abbrev pub HasNothing : Pool → Type 0
HasNothing pool = (n : ℕ) → (at_place pool.resources n ≡ None) × (at_place pool.domains n ≡ None)

-- what is given, or what was there
abbrev pub given_or : Option Span → ℕ → ℕ
given_or o n = elim o [ None ↦ n | Some given ↦ given.0 ]

-- a period and a budget whose whole microseconds are in range
pub record IsTermInMicroseconds (period budget : ℕ) : Type 0 where
  pub long : IsWithin 10 1000000000 (period / 1000)
  pub within : IsWithin 10 (period / 1000) (budget / 1000)

-- pools and domains that the plan names are there, a pool that is made has an empty place, one that is destroyed has nothing, a core that
-- is added is one of no pool, parameters are those of the pool's scheduler and in range, and units are those of their domain
abbrev pub Finds : Machine → State → Plan → Type 0
Finds m s (plan.PoolList pool answer) = ForSome pool (λ i. IsThere s i.0)
Finds m s (plan.PoolCreate i name kind answer) = (i.0 < length s.pools) × (at_place s.pools i.0 ≡ None)
Finds m s (plan.PoolDestroy i answer) = FindsPool s i.0 HasNothing
Finds m s (plan.PoolRename i name answer) = IsThere s i.0
Finds m s (plan.CpuAdd i core answer) = IsThere s i.0 × (home_pool_of_core s core.0 ≡ None) × (core.0 < machine_core_count m.config)
Finds m s (plan.CpuRemove i core answer) = FindsPool s i.0 (λ pool. is_some (at_place pool.resources core.0) ≡ true)
Finds m s (plan.Migrate d i j answer) = (home_pool_of_domain s d.0 ≡ Some i.0) × FindsPool s i.0 (λ pool. is_some (at_place pool.domains d.0) ≡ true) × IsThere s j.0
Finds m s (plan.Credit2Dom d weight cap answer) = FindsDomain s d.0 (λ pool domain. (records_kind pool.scheduler.records ≡ kinds.Credit2) × ForSome weight IsWeight × ForSome cap IsCap)
Finds m s (plan.Credit2Pool i limit answer) = FindsPool s i.0 (λ pool. (records_kind pool.scheduler.records ≡ kinds.Credit2) × ForSome limit (λ (us : ℕ). us ≤ 500000))
Finds m s (plan.RtdsDom d first count period budget extra answer) =
    FindsDomain s d.0 (λ pool domain. (records_kind pool.scheduler.records ≡ kinds.Rtds) × (first + count ≤ domain_unit_count m.config.granularity domain)
    × All (λ (x : RtdsUnit). IsTermInMicroseconds (given_or period x.next_period) (given_or budget x.next_budget)) (rtds_units pool d.0 first count))
Finds m s (plan.Pause d answer) = FindsDomain s d.0 (λ pool domain. Unit {0})
Finds m s (plan.Unpause d answer) = FindsDomain s d.0 (λ pool domain. Unit {0})
Finds m s (plan.ArincSet i frame answer) = FindsPool s i.0 (λ pool. (records_kind pool.scheduler.records ≡ kinds.Arinc653) × IsFrame frame)
Finds m s (plan.Pin d unit cores answer) = FindsDomain s d.0 (λ pool domain. ForSome unit (λ (n : ℕ). n < domain_unit_count m.config.granularity domain))

-- What the changes of a pool need of it, and what carrying out a plan needs.
use Rattle.std.specs.Prelude.{◌≡◌, ◌≤◌, ◌+◌, ℕ, List, Option, Some}
use Rattle.sched_model.specs.declared.machine.Machine.{Machine}
use Rattle.sched_model.specs.declared.plan.Plan.{Plan}
use Rattle.sched_model.specs.declared.plan.Plan.TheVariants as plan
use Rattle.sched_model.specs.declared.state.Pool.{Pool}
use Rattle.sched_model.specs.Opening.{fresh_pool}
use Rattle.sched_model.specs.Places.{at_place, clear_at}
use Rattle.sched_model.specs.Policy.{standard_pool_params}
use Rattle.scheduler_records.specs.Fits.{RecordsFit}
use Rattle.plain_schedulers.specs.Parameters.{WeightAndCapFit}
use Rattle.pool_records.specs.Fits.{PoolFits}

-- the numbers of the pool are in range at t
pub record FitsAt (t : ℕ) (pool : Pool) : Type 0 where
  pub fits : PoolFits pool
  pub records : RecordsFit t pool.scheduler.records

-- the weight and the cap that the plan gives are in range, and its units have numbers of one byte
abbrev pub PlanFits : Plan → Type 0
PlanFits (plan.Credit2Dom d weight cap answer) = WeightAndCapFit weight cap
PlanFits (plan.RtdsDom d first count period budget extra answer) = first + count ≤ 255
PlanFits _ = Unit {0}

-- the pool that the plan makes, where it makes one, stands at the place k of the spares
abbrev pub HasSpare : Machine → ℕ → Plan → List (Option Pool) → Type 0
HasSpare m k (plan.PoolCreate i name kind answer) spares = at_place spares k ≡ Some (fresh_pool m.config (standard_pool_params kind))
HasSpare m k _ spares = Unit {0}

-- the spares without the one that the plan takes, where it takes one
abbrev pub spares_after : ℕ → Plan → List (Option Pool) → List (Option Pool)
spares_after k (plan.PoolCreate i name kind answer) spares = clear_at k spares
spares_after k _ spares = spares

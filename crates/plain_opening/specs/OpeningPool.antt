-- What the opening makes, place by place.
use Rattle.std.specs.Prelude.{◌≤◌, ◌==◌, length, ℕ, suc, [], ◌∷◌, List, Option, Some, None, Ok, Err, map, unwrap_or, if◌then◌else◌}
use Rattle.sched_model.specs.declared.command.Command.{Command}
use Rattle.sched_model.specs.declared.command.Command.TheVariants as command
use Rattle.sched_model.specs.declared.config.Config.{Config}
use Rattle.sched_model.specs.declared.config.SchedKind.TheVariants as kinds
use Rattle.sched_model.specs.declared.config.DomConfig.{DomConfig}
use Rattle.sched_model.specs.declared.config.PoolConfig.{PoolConfig}
use Rattle.plain_schedulers.specs.Parameters.{ParamsFit}
use Rattle.sched_model.specs.declared.machine.Machine.{Machine}
use Rattle.sched_model.specs.declared.state.Pool.{Pool}
use Rattle.sched_model.specs.declared.work.CommandLine.{CommandLine}
use Rattle.sched_model.specs.Opening.{fresh_pool, pool_with_configured, pool_at_opening}
use Rattle.sched_model.specs.Policy.{standard_pool_params}

-- the pool that the command makes, where it makes one
abbrev pub spare_by : Config → Command → Option Pool
spare_by config (command.PoolCreate name kind) = Some (fresh_pool config (standard_pool_params (unwrap_or kind kinds.Credit2)))
spare_by config _ = None

-- the pool that the command on the line makes
abbrev pub spare_of_line : Config → CommandLine → Option Pool
spare_of_line config line = elim line.command [ Err fault ↦ None | Ok c ↦ spare_by config c ]

-- the pools that the commands of the work file may make, each at its command's place
abbrev pub spares_of : Machine → List (Option Pool)
spares_of m = map (spare_of_line m.config) m.work.commands

-- at most 256 units wait in the pool
abbrev pub FewWait : Pool → Type 0
FewWait pool = length pool.scheduler.queue ≤ 256

-- the same of each pool of the list at the opening, where the first has the number i
abbrev pub AllFewWait : Config → ℕ → List PoolConfig → Type 0
AllFewWait config i [] = Unit {0}
AllFewWait config i (pool ∷ pools) = FewWait (pool_at_opening config i pool) × AllFewWait config (suc i) pools

-- a domain of the file has at most 32 vCPUs, and its parameters are in range
pub record JoinFits (joining : DomConfig) : Type 0 where
  pub guests : length joining.guests ≤ 32
  pub params : ParamsFit joining.params

-- the pool i after the domain d of the file, which joins it where this is its home
abbrev pub pool_after_domain : ℕ → ℕ → ℕ → DomConfig → Pool → Pool
pool_after_domain g i d joining pool = (if joining.home.0 == i then pool_with_configured g d joining pool else pool)

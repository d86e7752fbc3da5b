-- What the tool keeps at the opening.
use Rattle.sched_base.specs.Numbers.{moment}
use Rattle.std.specs.Prelude.{◌≤◌, ℕ, suc, ◌==◌, List, [], ◌∷◌, Option, Some, None, length, map, replicate, if◌then◌else◌}
use Rattle.std.specs.List.{list_any}
use Rattle.sched_base.specs.declared.Moment.{Moment}
use Rattle.sched_model.specs.declared.config.DomConfig.{DomConfig}
use Rattle.sched_model.specs.declared.config.PoolConfig.{PoolConfig}
use Rattle.sched_model.specs.declared.config.PoolParams.{PoolParams}
use Rattle.sched_model.specs.declared.config.PoolParams.TheVariants as pool_params
use Rattle.sched_model.specs.declared.config.SchedKind.{SchedKind}
use Rattle.sched_model.specs.declared.config.SchedKind.TheVariants as kinds
use Rattle.sched_model.specs.Places.{numbers_from}
use Rattle.sched_model.specs.State.{has_core_bit}
use Rattle.journal_core.specs.Parts.{Outline}

-- which scheduler the parameters are of
abbrev pub params_kind : PoolParams → SchedKind
params_kind (pool_params.Credit2 limit) = kinds.Credit2
params_kind pool_params.Rtds = kinds.Rtds
params_kind (pool_params.Arinc653 frame) = kinds.Arinc653
params_kind pool_params.Null = kinds.Null

-- a domain has at most 32 vCPUs
abbrev pub HasFewGuests : DomConfig → Type 0
HasFewGuests d = length d.guests ≤ 32

-- how many vCPUs the domain has, where its home is the pool i
abbrev pub size_at_home : ℕ → DomConfig → Option ℕ
size_at_home i d = (if d.home.0 == i then Some (length d.guests) else None)

-- the pool i, on a machine of so many cores with these domains
abbrev pub outline_at_opening : ℕ → List DomConfig → ℕ → PoolConfig → Outline
outline_at_opening cores domains i pool =
    record { kind = params_kind pool.params; cores = map (has_core_bit pool.cores) (numbers_from 0 cores); domains = map (size_at_home i) domains }

-- the pools, the first of them with the number i
abbrev pub outlines_at_opening : ℕ → List DomConfig → ℕ → List PoolConfig → List (Option Outline)
outlines_at_opening cores domains i [] = []
outlines_at_opening cores domains i (pool ∷ pools) = Some (outline_at_opening cores domains i pool) ∷ outlines_at_opening cores domains (suc i) pools

-- the ends of stalls of the core r, where no pool has it
abbrev pub free_ends_at_opening : ℕ → List PoolConfig → ℕ → Option (List Moment)
free_ends_at_opening processors pools r = (if list_any (λ (pool : PoolConfig). has_core_bit pool.cores r) pools then None else Some (replicate processors (moment 0)))

-- Cores and domains on their way.
use Rattle.std.specs.Prelude.{ℕ, ◌||◌, Bool, List, Option, Some, None, is_some, option_map}
use Rattle.std.specs.List.{list_any}
use Rattle.sched_base.specs.declared.Moment.{Moment}
use Rattle.sched_base.specs.declared.PoolId.{PoolId}
use Rattle.sched_model.specs.declared.state.Domain.{Domain}
use Rattle.sched_model.specs.declared.state.FreeCore.{FreeCore}
use Rattle.sched_model.specs.declared.state.Pool.{Pool}
use Rattle.sched_model.specs.Machine.{without_core}
use Rattle.sched_model.specs.Places.{at_place, numbered_items}
use Rattle.pool_records.specs.Cores.{ends_of}

-- whether a core or a domain of the pool is on its way
abbrev pub is_anything_moving : Pool → Bool
is_anything_moving pool = list_any (λ c. c.1.leaving) (numbered_items 0 pool.resources) || list_any (λ d. is_some d.1.moving) (numbered_items 0 pool.domains)

-- the pool to which the core of no pool is leaving
abbrev pub free_core_target : List (Option FreeCore) → ℕ → Option ℕ
free_core_target free r = elim (at_place free r) [ None ↦ None | Some c ↦ c.target ]

-- the pool without the core, where it has that
abbrev pub without_its_core : ℕ → ℕ → Pool → Pool
without_its_core t r pool = elim (at_place pool.resources r) [ None ↦ pool | Some c ↦ without_core t r pool ]

-- the ends of the stalls of the core, where the pool i has it
abbrev pub ends_at : ℕ → ℕ → List (Option Pool) → Option (List Moment)
ends_at r i pools = elim (at_place pools i) [ None ↦ None | Some pool ↦ option_map ends_of (at_place pool.resources r) ]

-- the domain d, where the pool i has it
abbrev pub domain_in : ℕ → ℕ → List (Option Pool) → Option Domain
domain_in d i pools = elim (at_place pools i) [ None ↦ None | Some pool ↦ at_place pool.domains d ]

-- the pool to which it is moving
abbrev pub domain_target : ℕ → ℕ → List (Option Pool) → Option PoolId
domain_target d i pools = elim (domain_in d i pools) [ None ↦ None | Some domain ↦ domain.moving ]

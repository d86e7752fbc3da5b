-- Which cores of a pool have to be looked at after an event.
use Rattle.std.specs.Prelude.{ℕ, ◌≡◌}
use Rattle.sched_model.specs.declared.state.Resource.{Resource}
use Rattle.sched_model.specs.declared.state.Pool.{Pool}
use Rattle.sched_model.specs.Pool.{settled_pool, reconsidered_core, change_core, pool_core_set}

-- each core that is to decide anew at t is pending
abbrev pub IsSettled : ℕ → Pool → Type 0
IsSettled t pool = settled_pool t pool ≡ pool

-- a core changed by f, and looked at alone
abbrev pub settled_core : ℕ → ℕ → (Resource → Resource) → Pool → Pool
settled_core t r f pool = change_core r (λ c. reconsidered_core t (pool_core_set pool) pool.scheduler r (f c)) pool

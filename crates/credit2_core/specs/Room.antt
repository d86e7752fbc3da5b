-- A pool that no domain has joined.
use Rattle.std.specs.Prelude.{◌≡◌, ℕ}
use Rattle.sched_model.specs.declared.config.PoolParams.TheVariants as pool_params
use Rattle.sched_ops.specs.Seen.{vacant_scheduler}
use Rattle.credit2_core.specs.declared.state.Credit2State.{Credit2State}
use Rattle.credit2_core.specs.Credit2State.{IsSound, seen_in}

-- what is kept where nothing has happened yet
pub record IsFresh (domains units latest : ℕ) (h : Credit2State) : Type 0 where
  pub sound : IsSound h
  pub seen : seen_in h ≡ record { scheduler = vacant_scheduler (pool_params.Credit2 1000) domains 0; spare = units; latest = latest }

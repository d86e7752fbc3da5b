-- Which pools were settled at a moment, and which events leave a pool so.
use Rattle.std.specs.Prelude.{ℕ, ◌≡◌, Bool, true, false, List, Option, Some, slice_index_or}
use Rattle.sched_model.specs.declared.action.Action.{Action}
use Rattle.sched_model.specs.declared.action.Action.TheVariants.{Arrive, Leave, Block, Slice, Decide}
use Rattle.sched_model.specs.declared.state.Pool.{Pool}
use Rattle.sched_model.specs.Places.{at_place}
use Rattle.sched_laws.specs.PoolFacts.{IsKnownPool}
use Rattle.pool_laws.specs.CoreLooks.{IsSettled}
use Rattle.settle_laws.specs.Frees.{is_decision_spared}
use Rattle.settle_laws.specs.Kept.{KeptOnce}
use Rattle.settle_laws.specs.Ready.{AreReadyBy}

-- each pool that has a mark is settled at t
pub record AreSettled (t : ℕ) (pools : List (Option Pool)) (marks : List Bool) : Type 0 where
  pub each : (i : ℕ) (pool : Pool) → slice_index_or marks i false ≡ true → at_place pools i ≡ Some pool → IsSettled t pool

-- whether the event leaves the pool settled where it was: it changes neither the scheduler nor what a core asks it, or is a decision that frees
-- nothing
abbrev pub is_spared : Action → Pool → Bool
is_spared (Arrive p) pool = true
is_spared (Leave p) pool = true
is_spared (Block p) pool = true
is_spared (Slice r) pool = true
is_spared (Decide r) pool = is_decision_spared pool.resources r.0 pool.scheduler.records
is_spared _ pool = false

-- what the law of decisions asks of a pool
pub record MayDecide (g : ℕ) (pool : Pool) : Type 0 where
  pub known : IsKnownPool g pool
  pub units : AreReadyBy pool.scheduler.records pool
  pub once : KeptOnce pool.scheduler.records

-- Which event of a pool comes first, and the next moment at which one may come. g is the number of a core's processors, t the moment.
use Rattle.std.specs.Prelude.{ℕ, ◌≡◌, ◌≤◌, true, false, Option, Some, None}
use Rattle.sched_base.specs.declared.Moment.{Moment}
use Rattle.sched_model.specs.declared.action.Action.{Action}
use Rattle.sched_model.specs.declared.state.Pool.{Pool}
use Rattle.sched_model.specs.Pool.{enabled_in}
use Rattle.sched_model.specs.Actions.{IsOfPool}
use Rattle.pool_laws.specs.Order.{IsNotAfter}

-- an event of the pool that may come at t, and that comes after none which may
pub record IsFirst (g t : ℕ) (pool : Pool) (event : Action) : Type 0 where
  pub of_pool : IsOfPool event
  pub enabled : enabled_in g t pool event ≡ true
  pub first : (action : Action) → IsOfPool action → enabled_in g t pool action ≡ true → IsNotAfter event action

-- the first event of the pool that may come at t; none where none may
abbrev pub IsFirstEnabled : ℕ → ℕ → Pool → Option Action → Type 0
IsFirstEnabled g t pool None = (action : Action) → IsOfPool action → enabled_in g t pool action ≡ false
IsFirstEnabled g t pool (Some event) = IsFirst g t pool event

-- the least moment at which an event of the pool may come; none where none may ever
pub record IsNextMoment (g : ℕ) (pool : Pool) (next : Option Moment) : Type 0 where
  pub some : (at : Moment) → next ≡ Some at → (action : Action) × IsOfPool action × (enabled_in g at.0 pool action ≡ true)
  pub least : (at : Moment) → next ≡ Some at → (t : ℕ) (action : Action) → IsOfPool action → enabled_in g t pool action ≡ true → at.0 ≤ t
  pub none : next ≡ None → (t : ℕ) (action : Action) → IsOfPool action → enabled_in g t pool action ≡ false

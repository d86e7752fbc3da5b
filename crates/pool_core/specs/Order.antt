-- Which event of a pool comes first among those of some kinds. g is the number of a core's processors, t the moment.
use Rattle.std.specs.Prelude.{ℕ, ◌≡◌, ◌≤◌, ◌<◌, true, false, Option, Some, None, Bool}
use Rattle.sched_model.specs.declared.action.Action.{Action}
use Rattle.sched_model.specs.declared.state.Pool.{Pool}
use Rattle.sched_model.specs.Pool.{enabled_in}
pub use Rattle.pool_laws.specs.Order.{kind_place, subject_place, index_place, IsNotAfter}
use Rattle.sched_model.specs.declared.action.Actor.{Actor}
use Rattle.pool_laws.specs.Actors.{is_by}

-- the event passes the test and may come at t, its kind has a place from one number on and below another, and no event from the first
-- number on that passes and may come at t comes before it
pub record IsFirstOf (test : Action → Bool) (from below g t : ℕ) (pool : Pool) (event : Action) : Type 0 where
  pub kind : from ≤ kind_place event
  pub kind_below : kind_place event < below
  pub passes : test event ≡ true
  pub enabled : enabled_in g t pool event ≡ true
  pub first : (action : Action) → from ≤ kind_place action → test action ≡ true → enabled_in g t pool action ≡ true → IsNotAfter event action

-- the first event that passes the test and may come at t, of those whose kinds have places from one number on and below another; none
-- where none may
abbrev pub IsFirstWhere : (Action → Bool) → ℕ → ℕ → ℕ → ℕ → Pool → Option Action → Type 0
IsFirstWhere test from below g t pool None = (action : Action) → from ≤ kind_place action → kind_place action < below → test action ≡ true → enabled_in g t pool action ≡ false
IsFirstWhere test from below g t pool (Some event) = IsFirstOf test from below g t pool event

-- the same of all events
abbrev pub is_any : Action → Bool
is_any action = true

abbrev pub IsFirstIn : ℕ → ℕ → ℕ → ℕ → Pool → Option Action → Type 0
IsFirstIn from below g t pool first = IsFirstWhere is_any from below g t pool first

-- the first event by the actor that may come at t, of those whose kinds have places from one number on and below another
abbrev pub IsFirstByIn : ℕ → ℕ → ℕ → ℕ → Pool → Actor → Option Action → Type 0
IsFirstByIn from below g t pool actor first = IsFirstWhere (is_by g pool actor) from below g t pool first

-- The least moment from which on an action may come in the whole machine.
use Rattle.std.specs.Prelude.{◌≡◌, ◌≢◌, ◌≤◌, ◌<◌, ◌⊎◌, ℕ, not, List, [], ◌∷◌, Option, Some, None, is_some, slice_get, true}
use Rattle.sched_base.specs.declared.Moment.{Moment}
use Rattle.sched_model.specs.declared.action.Action.{Action}
use Rattle.sched_model.specs.declared.machine.Machine.{Machine}
use Rattle.sched_model.specs.declared.state.FreeCore.{FreeCore}
use Rattle.sched_model.specs.declared.state.Pool.{Pool}
use Rattle.sched_model.specs.declared.state.State.{State}
use Rattle.sched_model.specs.Machine.{first_enabled_action, is_action_enabled, has_move_under_way, next_in_horizon}
use Rattle.sched_model.specs.Places.{at_place}
use Rattle.pool_laws.specs.ReadyMoments.{guarded_moment}
use Rattle.plain_pool.specs.Ready.{IsReadyIn, least_each, lesser_moment}

-- from when on the next stall may come
abbrev pub next_stall_moment : Machine → State → Option Moment
next_stall_moment m s = elim (slice_get m.work.stalls s.next_stall) [ None ↦ None | Some line ↦ Some line.at ]

-- from when on the next command may come
abbrev pub command_ready : Machine → State → Option Moment
command_ready m s = elim (slice_get m.work.commands s.next_command) [ None ↦ None | Some line ↦ guarded_moment (not (has_move_under_way s)) (Some line.at) ]

-- the first of the moments
abbrev pub first_of : List Moment → Option Moment
first_of [] = None
first_of (end ∷ ends) = Some end

-- from when on the core of no pool may move
abbrev pub free_core_moment : FreeCore → Option Moment
free_core_moment c = guarded_moment (is_some c.target) (first_of c.stall_ends)

-- the least so far, and of these cores of no pool
abbrev pub least_of_free : ℕ → List (ℕ × FreeCore) → ℕ
least_of_free best cores = least_each (λ so_far (e : ℕ × FreeCore). lesser_moment so_far (free_core_moment e.1)) best cores

-- it is the moment from which on some action may come in the pool that stands there
abbrev pub IsReadyAt : ℕ → Option Pool → ℕ → Type 0
IsReadyAt g None at = ⊥
IsReadyAt g (Some pool) at = IsReadyIn g pool at

-- the same of one of the pools
pub record IsReadyAmong (g : ℕ) (pools : List (Option Pool)) (at : ℕ) : Type 0 where
  pub place : ℕ
  pub pool : Pool
  pub there : at_place pools place ≡ Some pool
  pub ready : IsReadyIn g pool at

-- the greatest number that a moment may have
abbrev pub last_moment : ℕ
last_moment = 18446744073709551615

-- no action may come before it, and one may come from it on, or it is the greatest number that a moment may have
pub record IsSoonest (m : Machine) (s : State) (soonest : ℕ) : Type 0 where
  pub none_before : (t : ℕ) (action : Action) → is_action_enabled m s t action ≡ true → soonest ≤ t
  pub one : (soonest ≡ last_moment) ⊎ ((action : Action) × (is_action_enabled m s soonest action ≡ true))

-- nothing may come now, and the next moment within the horizon is this one
pub record IsQuiet (m : Machine) (s : State) (next : Option ℕ) : Type 0 where
  pub nothing : first_enabled_action m s s.now ≡ None
  pub next_is : next_in_horizon m s ≡ next

-- where the moment has come, something may come now; where it has not, nothing may, and it is the next moment within the horizon
pub record IsNextTurn (m : Machine) (s : State) (at : ℕ) : Type 0 where
  pub come : at ≤ s.now → first_enabled_action m s s.now ≢ None
  pub later : s.now < at → IsQuiet m s (Some at)

-- from when on something may come, within the horizon; none where nothing may come any more
abbrev pub IsTurn : Machine → State → Option Moment → Type 0
IsTurn m s None = IsQuiet m s None
IsTurn m s (Some at) = IsNextTurn m s at.0

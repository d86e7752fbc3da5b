-- The first action of the machine, from the first events of its pools and the tool's first action.
use Rattle.sched_base.specs.Numbers.{core, domain}
use Rattle.std.specs.Prelude.{◌≡◌, ℕ, List, Option, Some, None, if◌then◌else◌}
use Rattle.sched_model.specs.declared.action.Action.{Action}
use Rattle.sched_model.specs.declared.action.Action.TheVariants.{Stall, Xl, Moved, DomMoved}
use Rattle.sched_model.specs.declared.machine.Machine.{Machine}
use Rattle.sched_model.specs.declared.state.Pool.{Pool}
use Rattle.sched_model.specs.declared.state.State.{State}
use Rattle.sched_model.specs.Places.{at_place}
use Rattle.sched_model.specs.Machine.{is_action_enabled}
use Rattle.journal_core.specs.Parts.{UnderWay, core_to, domain_to, state_under_way}
use Rattle.pool_laws.specs.Order.{IsNotAfter}
use Rattle.pool_laws.specs.FirstEvents.{IsFirstEnabled}

-- the action, where it may come at t
abbrev pub if_enabled : Machine → State → ℕ → Action → Option Action
if_enabled m s t action = (if is_action_enabled m s t action then Some action else None)

-- the move of what is on its way, where it may come at t
abbrev pub first_tool_move : Machine → State → ℕ → Option UnderWay → Option Action
first_tool_move m s t None = None
first_tool_move m s t (Some (core_to r to)) = if_enabled m s t (Moved (core r))
first_tool_move m s t (Some (domain_to d i)) = if_enabled m s t (DomMoved (domain d))

-- the tool's first action that may come at t: the stall, or else the command, or else the move of what is on its way
abbrev pub first_tool_action : Machine → State → ℕ → Option Action
first_tool_action m s t = (if is_action_enabled m s t Stall then Some Stall else if is_action_enabled m s t Xl then Some Xl else first_tool_move m s t (state_under_way s))

-- at each place stands the first event of the pool with that number, where it lets one come at t; nothing where there is no pool
pub record ArePoolsFirsts (g t : ℕ) (pools : List (Option Pool)) (firsts : List (Option Action)) : Type 0 where
  pub pool : (i : ℕ) (pool : Pool) → at_place pools i ≡ Some pool → IsFirstEnabled g t pool (at_place firsts i)
  pub nothing : (i : ℕ) → at_place pools i ≡ None → at_place firsts i ≡ None

-- the action stands at a place, and comes after none that stands at one
pub record ComesEarliest (firsts : List (Option Action)) (action : Action) : Type 0 where
  pub place : ℕ
  pub at : at_place firsts place ≡ Some action
  pub first : (i : ℕ) (other : Action) → at_place firsts i ≡ Some other → IsNotAfter action other

-- the earliest of the actions by their order; none where there are none
abbrev pub IsEarliest : List (Option Action) → Option Action → Type 0
IsEarliest firsts None = (i : ℕ) → at_place firsts i ≡ None
IsEarliest firsts (Some action) = ComesEarliest firsts action

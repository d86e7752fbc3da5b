-- The parts of a machine that one caller holds: the places of its pools, and what the tool knows.
use Rattle.std.specs.Prelude.{ℕ, ◌≡◌, List, Option, Some, None}
use Rattle.sched_base.specs.declared.Moment.{Moment}
use Rattle.sched_model.specs.declared.action.Action.{Action}
use Rattle.sched_model.specs.declared.action.Action.TheVariants.{Stall, Xl, Moved, DomMoved}
use Rattle.sched_model.specs.declared.state.State.{State}
use Rattle.sched_model.specs.Actions.{home_pool_of_action}
use Rattle.sched_model.specs.Machine.{first_enabled_action}
use Rattle.sched_model.specs.Places.{at_place}
use Rattle.cpupool.specs.Tool.{Tool, tool_of}
use Rattle.pool_laws.specs.FirstEvents.{IsFirstEnabled, IsNextMoment}
use Rattle.pool_core.specs.Seen.{Seen}
use Rattle.machine_parts.specs.Told.{Told}
use Rattle.machine_parts.specs.Places.{AllStand, GoesOn, state_of}

-- the places are the pools of the state that the trail leads to, and the tool knows what is to be known of that state
pub record AreParts (w : Told) (slots : List (Option Seen)) (tool : Tool) : Type 0 where
  pub goes : GoesOn w
  pub stand : AllStand w slots
  pub known : tool_of w.input (state_of w) ≡ tool

-- at each place stands the first event of the pool of that place that may come at t; nothing where there is no pool
pub record AreFirsts (t : ℕ) (slots : List (Option Seen)) (firsts : List (Option Action)) : Type 0 where
  pub pool : (k : ℕ) (seen : Seen) → at_place slots k ≡ Some seen → IsFirstEnabled seen.granularity t seen.pool (at_place firsts k)
  pub nothing : (k : ℕ) → at_place slots k ≡ None → at_place firsts k ≡ None

-- at each place stands the least moment at which an event of the pool of that place may come; nothing where there is no pool
pub record AreNexts (slots : List (Option Seen)) (nexts : List (Option Moment)) : Type 0 where
  pub pool : (k : ℕ) (seen : Seen) → at_place slots k ≡ Some seen → IsNextMoment seen.granularity seen.pool (at_place nexts k)
  pub nothing : (k : ℕ) → at_place slots k ≡ None → at_place nexts k ≡ None

-- the first event of what stands at a place that may come at t; nothing of an empty place
abbrev pub IsFirstOfPlace : ℕ → Option Seen → Option Action → Type 0
IsFirstOfPlace t None first = first ≡ None
IsFirstOfPlace t (Some seen) first = IsFirstEnabled seen.granularity t seen.pool first

-- the least moment at which an event of what stands at a place may come; nothing of an empty place
abbrev pub IsNextOfPlace : Option Seen → Option Moment → Type 0
IsNextOfPlace None next = next ≡ None
IsNextOfPlace (Some seen) next = IsNextMoment seen.granularity seen.pool next

-- the pool that the event is of; none of an action of the tool
abbrev pub event_pool : ℕ → State → Action → Option ℕ
event_pool g s Stall = None
event_pool g s Xl = None
event_pool g s (Moved r) = None
event_pool g s (DomMoved d) = None
event_pool g s action = home_pool_of_action g s action

-- the action is the machine's first that may come at t, and is of this pool
pub record IsFirstOfPool (w : Told) (t place : ℕ) (action : Action) : Type 0 where
  pub first : first_enabled_action w.input (state_of w) t ≡ Some action
  pub of_pool : event_pool w.input.config.granularity (state_of w) action ≡ Some place

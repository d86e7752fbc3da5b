-- What the tool tells of its next steps.
use Rattle.sched_base.specs.Numbers.{core as core_number, domain as domain_number, pool as pool_number}
use Rattle.std.specs.Prelude.{ℕ, ◌&&◌, Bool, false, List, [], ◌∷◌, Option, Some, None, is_none, option_map, slice_get, nat_le, if◌then◌else◌}
use Rattle.sched_base.specs.declared.Moment.{Moment}
use Rattle.sched_model.specs.declared.config.SchedKind.{SchedKind}
use Rattle.sched_model.specs.declared.config.SchedKind.TheVariants as kinds
use Rattle.sched_model.specs.declared.action.Action.TheVariants.{Stall, Xl}
use Rattle.sched_model.specs.declared.machine.Machine.{Machine}
use Rattle.sched_model.specs.declared.state.State.{State}
use Rattle.sched_model.specs.Machine.{is_action_enabled}
use Rattle.sched_model.specs.Places.{at_place}
use Rattle.journal_core.specs.Parts.{ToolPart, UnderWay, core_to, domain_to}
use Rattle.cpupool.specs.declared.steps.ToolEvent.{ToolEvent}
use Rattle.cpupool.specs.declared.steps.ToolEvent.TheVariants as tool_event
use Rattle.cpupool.specs.declared.moves.Move.{Move}
use Rattle.cpupool.specs.declared.moves.Move.TheVariants as move
use Rattle.cpupool.specs.Tool.{Tool}

-- whether the next stall may come at t
abbrev pub is_stall_due : Tool → ℕ → Bool
is_stall_due tool t = elim (slice_get tool.stalls tool.part.next_stall) [ None ↦ false | Some line ↦ nat_le line.at.0 t ]

-- whether the next command may come at t: none does while something is on its way
abbrev pub is_command_due : Tool → ℕ → Bool
is_command_due tool t = elim (slice_get tool.commands tool.part.next_command) [ None ↦ false | Some line ↦ nat_le line.at.0 t && is_none tool.part.under_way ]

-- whether the first of these ends of stalls has come at t
abbrev pub first_end_up : ℕ → Option (List Moment) → Bool
first_end_up t None = false
first_end_up t (Some []) = false
first_end_up t (Some (end ∷ ends)) = nat_le end.0 t

-- whether a core of no pool is to join one, and its first processor is up at t
abbrev pub joining_ready : ToolPart → ℕ → Option UnderWay → Bool
joining_ready part t None = false
joining_ready part t (Some (core_to r None)) = false
joining_ready part t (Some (core_to r (Some i))) = first_end_up t (at_place part.free r)
joining_ready part t (Some (domain_to d i)) = false

-- what the tool may do at t
abbrev pub next_tool_event : Tool → ℕ → Option ToolEvent
next_tool_event tool t =
    (if is_stall_due tool t then Some (tool_event.Stall tool.part.next_stall) else if is_command_due tool t then Some (tool_event.Command tool.part.next_command) else None)

-- the stall or the command that may come at t
abbrev pub enabled_event : Machine → State → ℕ → Option ToolEvent
enabled_event m s t =
    (if is_action_enabled m s t Stall then Some (tool_event.Stall s.next_stall) else if is_action_enabled m s t Xl then Some (tool_event.Command s.next_command) else None)

-- the scheduler of the pool i
abbrev pub outlined_kind : ToolPart → ℕ → SchedKind
outlined_kind part i = elim (at_place part.pools i) [ None ↦ kinds.Null | Some o ↦ o.kind ]

-- what is on its way, as the program tells it
abbrev pub move_of : ToolPart → UnderWay → Move
move_of part (core_to r to) = move.Res (core_number r) (option_map pool_number to)
move_of part (domain_to d i) = move.Dom (domain_number d) (pool_number i) (outlined_kind part i)

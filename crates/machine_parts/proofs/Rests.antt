-- A tool of which nothing may come, and nothing is on its way.
use Rattle.std.proofs.Common.{◌≡◌, Bool, true, false, Option, Some, None, refl, sym, ap, ◌∙◌, ℕ, cond}
use Rattle.std.specs.Prelude.{◌&&◌, not, is_none, is_some}
use Rattle.sched_base.proofs.Bools.{and_left, and_right}
use Rattle.sched_model.specs.declared.action.Action.{Action}
use Rattle.sched_model.specs.declared.action.Action.TheVariants.{Stall, Xl}
use Rattle.sched_model.specs.declared.machine.Machine.{Machine}
use Rattle.sched_model.specs.declared.state.State.{State}
use Rattle.sched_model.specs.Machine.{has_move_under_way, is_action_enabled}
use Rattle.journal_core.specs.Parts.{UnderWay, state_under_way}
use Rattle.cpupool.specs.Steps.{enabled_event}
use Rattle.cpupool.specs.Tool.{Tool, tool_of}
use Rattle.cpupool.specs.declared.steps.ToolEvent.{ToolEvent}
use Rattle.cpupool.specs.declared.steps.ToolEvent.TheVariants as tool_event
use Rattle.cpupool.proofs.WayLemmas.{under_way-seen}
use Rattle.composition_laws.specs.WholeFirst.{first_tool_action, first_tool_move}
use Rattle.machine_parts.specs.Rests.{ToolRests}

none_on_way : (o : Option UnderWay) → not (is_some o) ≡ true → o ≡ None
none_on_way None is = refl
none_on_way (Some way) is = absurd (cc)

neither : (stall xl : Bool) (a b : ToolEvent) (move : Option Action) → is_none (cond stall (Some a) (cond xl (Some b) None)) ≡ true → move ≡ None
    → cond stall (Some Stall) (cond xl (Some Xl) move) ≡ None
neither true xl a b move none is = absurd (cc)
neither false true a b move none is = absurd (cc)
neither false false a b move none is = is

module _ (m : Machine) (s : State) (t : ℕ) where
  nothing-moves : (is_none (enabled_event m s t) && not (has_move_under_way s)) ≡ true → first_tool_move m s t (state_under_way s) ≡ None
  nothing-moves rests =
      ap (first_tool_move m s t) (none_on_way (state_under_way s) (ap not (under_way-seen s) ∙ and_right (is_none (enabled_event m s t)) (not (has_move_under_way s)) rests))

  none-comes : (is_none (enabled_event m s t) && not (has_move_under_way s)) ≡ true → first_tool_action m s t ≡ None
  none-comes rests = neither (is_action_enabled m s t Stall) (is_action_enabled m s t Xl) (tool_event.Stall s.next_stall) (tool_event.Command s.next_command) (first_tool_move m s t (state_under_way s))
      (and_left (is_none (enabled_event m s t)) (not (has_move_under_way s)) rests) (nothing-moves rests)

-- what is asked of the tool tells that it rests
pub tool-rests : (t : ℕ) (tool : Tool) (rests : Bool) → ((m : Machine) (s : State) → tool_of m s ≡ tool → rests ≡ (is_none (enabled_event m s t) && not (has_move_under_way s))) → rests ≡ true → ToolRests t tool
tool-rests t tool rests of is = λ m s known. none-comes m s t (sym (of m s known) ∙ is)

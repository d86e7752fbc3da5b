use Rattle.std.proofs.Common.{◌≡◌, List, sym, subst, ◌∙◌}
use Rattle.std.specs.Prelude.{Option, None, Some}
use Rattle.sched_model.specs.declared.action.Action.{Action}
use Rattle.sched_model.specs.declared.state.State.{State}
use Rattle.sched_model.specs.Machine.{first_enabled_action}
use Rattle.composition_laws.specs.WholeFirst.{ArePoolsFirsts, IsEarliest, first_tool_action}
use Rattle.machine_parts.specs.Places.{state_of}
use Rattle.machine_parts.proofs.Going.{state_of-is}
use Rattle.machine_parts.proofs.Firsts.{pools-firsts}
use Rattle.machine_parts.proofs.first.whole_first.Goals as goal

-- the tool's comes first
pub returns-in-Some : goal.returns-in-Some
returns-in-Some c =
    let w = c.args.trail.now in
    let goes = c.requires.parts.goes in
    let found : first_tool_action w.input (state_of w) c.args.t.0 ≡ Some c.in-Some.action = sym c.tool_first.ensures ∙ c.in-Some.is in
    sym (subst (λ (s : State). first_tool_action w.input s c.args.t.0 ≡ Some c.in-Some.action → first_enabled_action w.input s c.args.t.0 ≡ Some c.in-Some.action) (sym (state_of-is w))
    (c.law_whole_first.ensures.tool w.input goes.checked w.history goes.run c.args.t.0 c.in-Some.action) found)

-- and else the earliest of the pools
pub returns-in-None : goal.returns-in-None
returns-in-None c =
    let w = c.args.trail.now in
    let goes = c.requires.parts.goes in
    let none : first_tool_action w.input (state_of w) c.args.t.0 ≡ None = sym c.tool_first.ensures ∙ c.in-None.is in
    let firsts : List (Option Action) = c.args.firsts.now in
    sym (subst (λ (s : State). first_tool_action w.input s c.args.t.0 ≡ None → ArePoolsFirsts w.input.config.granularity c.args.t.0 s.pools firsts → IsEarliest firsts c.earliest.result → first_enabled_action w.input s c.args.t.0 ≡ c.earliest.result) (sym (state_of-is w))
    (c.law_whole_first.ensures.pools w.input goes.checked w.history goes.run c.args.t.0 firsts c.earliest.result) none (pools-firsts w c.args.slots.now c.args.tool.now c.requires.parts c.args.t.0 firsts c.requires.firsts) c.earliest.ensures)

use Rattle.std.proofs.Common.{◌∙◌, sym, ap}
use Rattle.composition_laws.specs.WholeFirst.{first_tool_action}
use Rattle.machine_parts.specs.Places.{state_of}
use Rattle.sched_model.specs.Standing.{Standing}
use Rattle.engine.proofs.engine.Engine.is_quiet.Goals as goal

pub returns : goal.returns
returns c =
    let in_self = c.self.inside in
    let w = in_self.trail in
    λ rests. sym (ap (λ (x : Standing). first_tool_action x.machine x.state x.state.now) c.self.view_is) ∙ ap (first_tool_action w.input (state_of w)) (sym c.self.invariant.0.now_is)
    ∙ c.self.invariant.2 rests w.input (state_of w) c.self.invariant.0.parts.known

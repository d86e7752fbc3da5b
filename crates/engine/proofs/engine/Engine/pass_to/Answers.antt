use Rattle.std.proofs.Common.{◌≡◌, ◌∙◌, List, length, sym, ap, subst}
use Rattle.std.specs.Prelude.{Option, None, Some}
use Rattle.sched_model.specs.declared.action.Action.{Action}
use Rattle.sched_model.specs.Machine.{first_enabled_action, next_in_horizon}
use Rattle.machine_parts.specs.Parts.{AreFirsts}
use Rattle.pool_core.specs.Seen.{Seen}
use Rattle.machine_parts.specs.Places.{state_of}
use Rattle.engine.specs.EngineState.{IsIdleFrom, IsRunning}
use Rattle.sched_model.specs.Standing.{Standing}
use Rattle.machine_parts.proofs.Rests.{tool-rests}
use Rattle.engine.proofs.Kept.{written}
use Rattle.engine.proofs.Passing.{running-later, standing-later}
use Rattle.engine.proofs.engine.Engine.pass_to.Goals as goal

pub invariant_of-self : goal.invariant_of-self
invariant_of-self c =
    let in_self = c.self.inside in
    let w = in_self.trail in
    let quiet : first_enabled_action w.input (state_of w) (state_of w).now ≡ None = ap (λ (x : Standing). first_enabled_action x.machine x.state x.state.now) c.self.view_is ∙ c.requires.nothing in
    let comes : next_in_horizon w.input (state_of w) ≡ Some c.args.next.0 = ap (λ (x : Standing). next_in_horizon x.machine x.state) c.self.view_is ∙ c.requires.next in
    let count : length c.read_firsts.new.firsts ≡ length in_self.slots.items = c.read_firsts.ensures.count ∙ ap length c.as_slice.ensures.value in
    let same = written in_self.firsts c.read_firsts.new.firsts (count ∙ sym c.self.invariant.0.kept.count_firsts) in
    let are : AreFirsts c.args.next.0 in_self.slots.items c.read_firsts.new.firsts = subst (λ (slots : List (Option Seen)). AreFirsts c.args.next.0 slots c.read_firsts.new.firsts) c.as_slice.ensures.value c.read_firsts.ensures.firsts in (
      subst (λ (firsts : List (Option Action)). IsRunning c.add.new.self c.args.next.0 in_self.horizon.0 in_self.granularity in_self.slots.items in_self.tool in_self.spares firsts in_self.nexts.items) (sym same)
          (running-later w c.add.new.self in_self.moment.0 c.args.next.0 in_self.horizon.0 in_self.granularity in_self.slots.items in_self.tool in_self.spares in_self.firsts.items in_self.nexts.items c.self.invariant.0
          quiet comes c.add.ensures c.read_firsts.new.firsts count are),
      subst (IsIdleFrom c.busy_places-self-inside.result) c.as_slice-2.ensures.value c.busy_places-self-inside.ensures,
      tool-rests c.args.next.0 in_self.tool c.tool_rests-self-inside.result c.tool_rests-self-inside.ensures,
    )

pub returns : goal.returns
returns c =
    let in_self = c.self.inside in
    let w = in_self.trail in
    let quiet : first_enabled_action w.input (state_of w) (state_of w).now ≡ None = ap (λ (x : Standing). first_enabled_action x.machine x.state x.state.now) c.self.view_is ∙ c.requires.nothing in
    let comes : next_in_horizon w.input (state_of w) ≡ Some c.args.next.0 = ap (λ (x : Standing). next_in_horizon x.machine x.state) c.self.view_is ∙ c.requires.next in
    standing-later w c.add.new.self in_self.moment.0 c.args.next.0 in_self.horizon.0 in_self.granularity in_self.slots.items in_self.tool in_self.spares in_self.firsts.items in_self.nexts.items c.self.invariant.0
    quiet comes c.add.ensures
    ∙ ap (λ (x : Standing). let y : Standing = record x { state = record x.state { now = c.args.next.0 } } in y) c.self.view_is

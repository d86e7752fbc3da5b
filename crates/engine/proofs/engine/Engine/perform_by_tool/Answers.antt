use Rattle.std.proofs.Common.{◌≡◌, ◌∙◌, true, List, length, sym, ap, subst}
use Rattle.std.specs.Prelude.{Option}
use Rattle.sched_model.specs.Machine.{after, is_action_enabled}
use Rattle.pool_core.specs.Seen.{Seen}
use Rattle.machine_parts.specs.Places.{state_of}
use Rattle.engine.specs.EngineState.{AreKept, IsIdleFrom}
use Rattle.sched_model.specs.Standing.{Standing}
use Rattle.engine.proofs.Clock.{now-done, standing-done}
use Rattle.machine_parts.proofs.Rests.{tool-rests}
use Rattle.engine.proofs.Kept.{written}
use Rattle.engine.proofs.Performing.{running-acted, running-same}
use Rattle.engine.proofs.engine.Engine.perform_by_tool.Goals as goal

pub invariant_of-self : goal.invariant_of-self
invariant_of-self c =
    let in_self = c.self.inside in
    let w = in_self.trail in
    let running = c.self.invariant.0 in
    let on : is_action_enabled w.input (state_of w) (state_of w).now c.args.action ≡ true = ap (λ (x : Standing). is_action_enabled x.machine x.state x.state.now c.args.action) c.self.view_is ∙ c.requires.enabled in
    let e = c.act_of_tool-event.ensures in
    let left : List (Option Seen) = c.act_of_tool-event.new.slots in
    let slots = written in_self.slots left (e.parts.stand.count ∙ sym running.parts.stand.count) in
    let kept : AreKept in_self.moment.0 left c.read_all.new.firsts c.read_all.new.nexts = subst (λ (xs : List (Option Seen)). AreKept in_self.moment.0 xs c.read_all.new.firsts c.read_all.new.nexts) (c.as_slice.ensures.value ∙ slots) c.read_all.ensures in
    let count_firsts : length c.read_all.new.firsts ≡ length in_self.firsts.items = kept.count_firsts ∙ e.parts.stand.count ∙ sym running.parts.stand.count ∙ sym running.kept.count_firsts in
    let count_nexts : length c.read_all.new.nexts ≡ length in_self.nexts.items = kept.count_nexts ∙ e.parts.stand.count ∙ sym running.parts.stand.count ∙ sym running.kept.count_nexts in
    let now = now-done w c.add.new.self running.parts.goes c.args.action on in_self.moment.0 running.now_is c.act_of_tool-event.result e.event in (
      running-same c.add.new.self in_self.moment.0 in_self.horizon.0 in_self.granularity c.act_of_tool-event.new.tool c.act_of_tool-event.new.spares _ left _ c.read_all.new.firsts _ c.read_all.new.nexts
          slots (written in_self.firsts c.read_all.new.firsts count_firsts) (written in_self.nexts c.read_all.new.nexts count_nexts)
          (running-acted w c.add.new.self in_self.moment.0 in_self.horizon.0 in_self.granularity in_self.slots.items left in_self.tool c.act_of_tool-event.new.tool in_self.spares c.act_of_tool-event.new.spares in_self.firsts.items in_self.nexts.items running
          c.act_of_tool-event.result c.add.ensures e.parts now e.spares c.read_all.new.firsts c.read_all.new.nexts kept),
      subst (IsIdleFrom c.busy_places-self-inside.result) c.as_slice-2.ensures.value c.busy_places-self-inside.ensures,
      tool-rests in_self.moment.0 c.act_of_tool-event.new.tool c.tool_rests-self-inside.result c.tool_rests-self-inside.ensures,
    )

pub returns-clause-state : goal.returns-clause-state
returns-clause-state c =
    let in_self = c.self.inside in
    let w = in_self.trail in
    let on : is_action_enabled w.input (state_of w) (state_of w).now c.args.action ≡ true = ap (λ (x : Standing). is_action_enabled x.machine x.state x.state.now c.args.action) c.self.view_is ∙ c.requires.enabled in
    standing-done w c.add.new.self c.self.invariant.0.parts.goes c.args.action on in_self.moment.0 c.self.invariant.0.now_is c.act_of_tool-event.result c.act_of_tool-event.ensures.event c.add.ensures
    ∙ ap (λ (x : Standing). let y : Standing = record x { state = after x.machine x.state x.state.now c.args.action } in y) c.self.view_is

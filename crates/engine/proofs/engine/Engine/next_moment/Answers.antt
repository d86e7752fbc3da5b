use Rattle.std.proofs.Common.{◌≡◌, ◌∙◌, List, sym, ap, subst}
use Rattle.std.specs.Prelude.{Option, None}
use Rattle.sched_base.specs.declared.Moment.{Moment}
use Rattle.sched_model.specs.Machine.{first_enabled_action}
use Rattle.machine_parts.specs.Places.{state_of}
use Rattle.pool_core.specs.Seen.{Seen}
use Rattle.machine_parts.specs.Parts.{AreNexts}
use Rattle.sched_model.specs.Standing.{Standing}
use Rattle.engine.proofs.Quiet.{quiet-nexts}
use Rattle.engine.proofs.engine.Engine.next_moment.Goals as goal

pub whole_next-requires-clause-quiet : goal.whole_next-requires-clause-quiet
whole_next-requires-clause-quiet c =
    let w = c.self.inside.trail in
    ap (first_enabled_action w.input (state_of w)) c.self.invariant.0.now_is ∙ ap (λ (x : Standing). first_enabled_action x.machine x.state x.state.now) c.self.view_is ∙ c.requires

pub whole_next-requires-clause-nexts : goal.whole_next-requires-clause-nexts
whole_next-requires-clause-nexts c =
    let in_self = c.self.inside in
    let w = in_self.trail in
    let running = c.self.invariant.0 in
    let quiet : first_enabled_action w.input (state_of w) (state_of w).now ≡ None = ap (λ (x : Standing). first_enabled_action x.machine x.state x.state.now) c.self.view_is ∙ c.requires in
    subst (λ (xs : List (Option Seen)). AreNexts xs c.as_slice-2.result.now) (sym c.as_slice.ensures.value)
    (subst (λ (xs : List (Option Moment)). AreNexts in_self.slots.items xs) (sym c.as_slice-2.ensures.value)
    (quiet-nexts w in_self.slots.items in_self.tool running.parts in_self.moment.0 running.now_is in_self.firsts.items running.kept.firsts_are quiet in_self.nexts.items running.kept.nexts_are))

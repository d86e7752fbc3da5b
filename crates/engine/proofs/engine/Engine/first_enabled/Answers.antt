use Rattle.std.proofs.Common.{◌∙◌, ap}
use Rattle.sched_model.specs.Machine.{first_enabled_action}
use Rattle.machine_parts.specs.Places.{state_of}
use Rattle.sched_model.specs.Standing.{Standing}
use Rattle.std.proofs.Common.{List, sym, subst}
use Rattle.std.specs.Prelude.{Option, take}
use Rattle.sched_model.specs.declared.action.Action.{Action}
use Rattle.pool_core.specs.Seen.{Seen}
use Rattle.machine_parts.specs.Parts.{AreFirsts}
use Rattle.engine.proofs.Kept.{firsts-taken}
use Rattle.engine.proofs.engine.Engine.first_enabled.Goals as goal

pub whole_first-requires-clause-firsts : goal.whole_first-requires-clause-firsts
whole_first-requires-clause-firsts c =
    let in_self = c.self.inside in
    let kept = c.self.invariant.0.kept in
    let taken : AreFirsts in_self.moment.0 in_self.slots.items (take in_self.busy in_self.firsts.items) = firsts-taken in_self.moment.0 in_self.busy in_self.slots.items in_self.firsts.items c.self.invariant.1 kept.firsts_are in
    subst (λ (xs : List (Option Seen)). AreFirsts in_self.moment.0 xs (take in_self.busy c.deref.result.now)) (sym c.as_slice.ensures.value)
    (subst (λ (xs : List (Option Action)). AreFirsts in_self.moment.0 in_self.slots.items (take in_self.busy xs)) (sym c.deref.ensures.value) taken)

pub returns : goal.returns
returns c =
    let w = c.self.inside.trail in
    c.whole_first.ensures ∙ ap (first_enabled_action w.input (state_of w)) c.self.invariant.0.now_is ∙ ap (λ (x : Standing). first_enabled_action x.machine x.state x.state.now) c.self.view_is

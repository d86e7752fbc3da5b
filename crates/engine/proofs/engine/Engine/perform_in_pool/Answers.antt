use Rattle.std.proofs.Common.{◌≡◌, ◌≢◌, ◌∙◌, ◌<◌, ℕ, true, List, length, sym, ap, subst, arith}
use Rattle.std.specs.Prelude.{Option, None, Some}
use Rattle.sched_base.specs.declared.Moment.{Moment}
use Rattle.sched_model.specs.declared.action.Action.{Action}
use Rattle.sched_model.specs.Machine.{is_action_enabled}
use Rattle.sched_model.specs.Places.{at_place}
use Rattle.pool_core.specs.Seen.{Seen}
use Rattle.machine_parts.specs.Places.{state_of}
use Rattle.machine_parts.proofs.Stepping.{few-pools}
use Rattle.machine_parts.specs.Parts.{IsFirstOfPlace, IsNextOfPlace, event_pool}
use Rattle.engine.specs.EngineState.{IsIdleFrom, IsRunning}
use Rattle.sched_model.specs.Standing.{Standing}
use Rattle.engine.proofs.Kept.{idle-more, written}
use Rattle.machine_parts.proofs.Performing.{own-event}
use Rattle.engine.proofs.Performing.{running-same, running-stepped}
use Rattle.engine.proofs.engine.Engine.perform_in_pool.Goals as goal

pub read_one-requires-clause-place : goal.read_one-requires-clause-place
read_one-requires-clause-place c =
    let in_self = c.self.inside in
    let w = in_self.trail in
    let home : event_pool w.input.config.granularity (state_of w) c.args.action ≡ Some c.args.place = ap (λ (x : Standing). event_pool x.machine.config.granularity x.state c.args.action) c.self.view_is ∙ c.requires.home in
    let on : is_action_enabled w.input (state_of w) (state_of w).now c.args.action ≡ true = ap (λ (x : Standing). is_action_enabled x.machine x.state x.state.now c.args.action) c.self.view_is ∙ c.requires.enabled in
    let own = own-event w.input.config.granularity (state_of w) c.args.action c.args.place home in
    let low = few-pools w c.self.invariant.0.parts.goes in_self.moment.0 c.self.invariant.0.now_is c.args.action own.0 on c.args.place own.1 in
    let stand = c.perform_among.ensures.stand in
    let count : length c.perform_among.new.slots ≡ length in_self.slots.items = stand.count ∙ sym c.self.invariant.0.parts.stand.count in
    let read : length c.as_slice.result.now ≡ 16 = ap length (c.as_slice.ensures.value ∙ written in_self.slots c.perform_among.new.slots count) ∙ stand.count in
    omega (arith, low, read)

pub invariant_of-self : goal.invariant_of-self
invariant_of-self c =
    let in_self = c.self.inside in
    let w = in_self.trail in
    let home : event_pool w.input.config.granularity (state_of w) c.args.action ≡ Some c.args.place = ap (λ (x : Standing). event_pool x.machine.config.granularity x.state c.args.action) c.self.view_is ∙ c.requires.home in
    let on : is_action_enabled w.input (state_of w) (state_of w).now c.args.action ≡ true = ap (λ (x : Standing). is_action_enabled x.machine x.state x.state.now c.args.action) c.self.view_is ∙ c.requires.enabled in
    let own = own-event w.input.config.granularity (state_of w) c.args.action c.args.place home in
    let low = few-pools w c.self.invariant.0.parts.goes in_self.moment.0 c.self.invariant.0.now_is c.args.action own.0 on c.args.place own.1 in
    let e = c.perform_among.ensures in
    let left : List (Option Seen) = c.perform_among.new.slots in
    let count : length left ≡ length in_self.slots.items = e.stand.count ∙ sym c.self.invariant.0.parts.stand.count in
    let slots = written in_self.slots left count in
    let read : c.as_slice.result.now ≡ left = c.as_slice.ensures.value ∙ slots in
    let r = c.read_one.ensures in
    let count_firsts : length c.read_one.new.firsts ≡ length in_self.firsts.items = r.firsts ∙ ap length c.as_mut_slice-2.ensures.value in
    let count_nexts : length c.read_one.new.nexts ≡ length in_self.nexts.items = r.nexts ∙ ap length c.as_mut_slice-3.ensures.value in
    let firsts = written in_self.firsts c.read_one.new.firsts count_firsts in
    let nexts = written in_self.nexts c.read_one.new.nexts count_nexts in
    let others : (k : ℕ) → k ≢ c.args.place → at_place left k ≡ at_place in_self.slots.items k = λ k other. e.others k other ∙ ap (λ (xs : List (Option Seen)). at_place xs k) c.as_mut_slice.ensures.value in
    let other_firsts : (k : ℕ) → k ≢ c.args.place → at_place c.read_one.new.firsts k ≡ at_place in_self.firsts.items k = λ k other. r.other_firsts k other ∙ ap (λ (xs : List (Option Action)). at_place xs k) c.as_mut_slice-2.ensures.value in
    let other_nexts : (k : ℕ) → k ≢ c.args.place → at_place c.read_one.new.nexts k ≡ at_place in_self.nexts.items k = λ k other. r.other_nexts k other ∙ ap (λ (xs : List (Option Moment)). at_place xs k) c.as_mut_slice-3.ensures.value in
    let first = subst (λ (xs : List (Option Seen)). IsFirstOfPlace in_self.moment.0 (at_place xs c.args.place) (at_place c.read_one.new.firsts c.args.place)) read r.first in
    let next = subst (λ (xs : List (Option Seen)). at_place c.read_one.new.firsts c.args.place ≡ None → IsNextOfPlace (at_place xs c.args.place) (at_place c.read_one.new.nexts c.args.place)) read r.next in
    let running : IsRunning c.add.new.self in_self.moment.0 in_self.horizon.0 in_self.granularity left in_self.tool in_self.spares c.read_one.new.firsts c.read_one.new.nexts =
    running-stepped w c.add.new.self in_self.moment.0 in_self.horizon.0 in_self.granularity c.args.place in_self.slots.items left in_self.tool in_self.spares in_self.firsts.items in_self.nexts.items c.self.invariant.0
    c.perform_among.new.out c.add.ensures low e.step e.stand others c.read_one.new.firsts c.read_one.new.nexts count_firsts count_nexts other_firsts other_nexts first next in
    let fits : c.args.place < length in_self.firsts.items = (let k = c.self.invariant.0.kept.count_firsts in let s = c.self.invariant.0.parts.stand.count in omega (arith, low, k, s)) in (
      running-same c.add.new.self in_self.moment.0 in_self.horizon.0 in_self.granularity in_self.tool in_self.spares _ left _ c.read_one.new.firsts _ c.read_one.new.nexts slots firsts nexts running,
      subst (IsIdleFrom c.max-self-inside.result) (sym firsts)
          (subst (λ (n : ℕ). IsIdleFrom n c.read_one.new.firsts) (sym c.max-self-inside.ensures) (idle-more c.args.place in_self.busy in_self.firsts.items c.read_one.new.firsts fits count_firsts other_firsts c.self.invariant.1)),
      c.self.invariant.2,
    )

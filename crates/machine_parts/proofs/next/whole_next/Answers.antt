use Rattle.std.proofs.Common.{◌≡◌, ◌≤◌, ◌∷◌, ℕ, List, sym, subst, ap, arith, ◌∙◌}
use Rattle.std.specs.Prelude.{Option, None, option_map}
use Rattle.sched_base.specs.Numbers.{moment}
use Rattle.sched_base.specs.declared.Moment.{Moment}
use Rattle.sched_model.specs.declared.state.State.{State}
use Rattle.sched_model.specs.CheckedMachine.{most_span}
use Rattle.sched_model.specs.Machine.{first_enabled_action}
use Rattle.journal_core.specs.Parts.{state_under_way}
use Rattle.core_state.specs.Firsts.{earlier_of_both}
use Rattle.journal_core.specs.ToolActions.{tool_may_act, IsLeastLater}
use Rattle.composition_laws.specs.WholeNext.{ArePoolsNexts, IsSoonest, IsWholeNext, leaving_at, number_within}
use Rattle.machine_parts.specs.Places.{state_of}
use Rattle.machine_parts.proofs.Going.{early, state_of-is}
use Rattle.machine_parts.proofs.Firsts.{pools-nexts}
use Rattle.machine_parts.proofs.Soonest.{sooner_more}
use Rattle.machine_parts.proofs.next.whole_next.Goals as goal

pub next_due-requires : goal.next_due-requires
next_due-requires c =
    let limit : (state_of c.args.trail.now).now ≤ most_span = early c.args.trail.now c.requires.parts.goes in
    let now = c.requires.now in
    omega (arith, limit, now)

pub returns : goal.returns
returns c =
    let w = c.args.trail.now in
    let goes = c.requires.parts.goes in
    let g : ℕ = w.input.config.granularity in
    let nexts : List (Option Moment) = c.args.nexts.now in
    let due : Option Moment = c.next_due.result in
    let next : Option Moment = c.earlier.result in
    let leaving : Option Moment = c.leaving_next.result in
    let is_next : next ≡ earlier_of_both due (earlier_of_both leaving c.soonest.result) = c.earlier.ensures ∙ ap (earlier_of_both due) c.earlier-others.ensures in
    let least : IsSoonest (due ∷ leaving ∷ nexts) next =
    subst (λ (o : Option Moment). IsSoonest (due ∷ leaving ∷ nexts) o) (sym is_next)
    (sooner_more due (leaving ∷ nexts) (earlier_of_both leaving c.soonest.result) (sooner_more leaving nexts c.soonest.result c.soonest.ensures)) in
    let least_of : IsSoonest (due ∷ leaving_at g (state_of w) (state_under_way (state_of w)) ∷ nexts) next =
    subst (λ (o : Option Moment). IsSoonest (due ∷ o ∷ nexts) next) c.leaving_next.ensures least in
    let quiet : first_enabled_action w.input (state_of w) (state_of w).now ≡ None = subst (λ (t : ℕ). first_enabled_action w.input (state_of w) t ≡ None) c.requires.now c.requires.quiet in
    let later : IsLeastLater (state_of w).now (tool_may_act w.input (state_of w)) due =
    subst (λ (t : ℕ). IsLeastLater t (tool_may_act w.input (state_of w)) due) c.requires.now (c.next_due.ensures.state w.input (state_of w) c.requires.parts.known) in
    let whole : IsWholeNext w.input (state_of w) next =
    subst (λ (s : State). first_enabled_action w.input s s.now ≡ None → ArePoolsNexts g s.pools nexts → IsLeastLater s.now (tool_may_act w.input s) due → IsSoonest (due ∷ leaving_at g s (state_under_way s) ∷ nexts) next → IsWholeNext w.input s next) (sym (state_of-is w))
    (c.law_whole_next.ensures w.input goes.checked w.history goes.run nexts due next) quiet (pools-nexts w c.args.slots.now c.args.tool.now c.requires.parts nexts c.requires.nexts) later least_of in
    c.up_to.ensures ∙ ap (λ (h : ℕ). option_map moment (number_within h next)) c.requires.horizon ∙ ap (option_map moment) (sym whole.in_horizon)

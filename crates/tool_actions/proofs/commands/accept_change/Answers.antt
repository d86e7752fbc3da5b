use Rattle.std.proofs.Common.{◌≡◌, ◌∙◌, ap, subst}
use Rattle.std.specs.Option.{ForSome}
use Rattle.sched_base.specs.declared.PoolId.{PoolId}
use Rattle.cpupool.specs.ToolAdvance.{after_advance}
use Rattle.cpupool.specs.Tool.{Tool}
use Rattle.machine_parts.specs.Places.{state_of}
use Rattle.tool_actions.specs.CarriedPlans.{HasCarried}
use Rattle.tool_actions.proofs.Carried.{parts-changed}
use Rattle.tool_actions.proofs.Spared.{advanced-is, is-idle, pools-kept}
use Rattle.tool_actions.proofs.Taking.{home-low}
use Rattle.tool_actions.proofs.commands.accept_change.Goals as goal
use Rattle.tool_actions.proofs.commands.accept_change.Goals.{After-advance}

pub advance-requires-clause-idle : goal.advance-requires-clause-idle
advance-requires-clause-idle c = (let w = c.args.trail.now in is-idle w.input (state_of w) (state_of w).now c.requires.enabled c.args.tool.now c.requires.parts.known)

-- what the tool keeps then
advanced : (c : After-advance) → c.advance.new.self ≡ after_advance c.args.tool.now c.args.plan
advanced c =
    let w = c.args.trail.now in
    let s = state_of w in
    let accepted = c.requires.accepted in
    advanced-is w.input s s.now c.requires.enabled c.args.tool.now c.requires.parts.known accepted.line c.args.plan accepted.accepted c.advance.new.self (c.advance.ensures w.input s s.now accepted.line c.requires.parts.known accepted.accepted)

-- the place of the home has what the plan makes of its pool, and no place changes where there is no home
pub returns-clause-parts : goal.returns-clause-parts
returns-clause-parts c =
    let w = c.args.trail.now in
    let s = state_of w in
    let home = c.home_of_plan-home in
    let slots = c.args.slots.now in
    let new = c.carry_among.new.slots in
    let accepted = c.requires.accepted in
    let carried : ForSome home.result (λ (i : PoolId). HasCarried w s.now c.args.plan i.0 slots new) = subst (λ n. ForSome home.result (λ (i : PoolId). HasCarried w n c.args.plan i.0 slots new)) c.requires.now c.carry_among.ensures.some in
    parts-changed w slots c.args.tool.now c.requires.parts c.requires.enabled accepted.line accepted.next c.args.plan home.result new c.advance.new.self (λ i lives. home-low w c.requires.parts.goes c.args.plan i accepted lives c.requires.keeps)
    accepted.accepted home.ensures carried c.carry_among.ensures.none (c.advance.ensures w.input s s.now accepted.line c.requires.parts.known accepted.accepted)

pub returns-clause-pools : goal.returns-clause-pools
returns-clause-pools c = ap (λ (x : Tool). x.part.pools) (advanced (goal.at.returns-clause-pools c).After-advance) ∙ pools-kept c.args.tool.now c.args.plan c.requires.keeps

pub returns-clause-over : goal.returns-clause-over
returns-clause-over c = ap (λ (x : Tool). x.part.next_command) (advanced (goal.at.returns-clause-over c).After-advance)

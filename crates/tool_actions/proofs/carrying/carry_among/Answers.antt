use Rattle.std.proofs.Common.{◌≡◌, ◌∙◌, ◌<◌, length, sym, subst, arith}
use Rattle.std.specs.Prelude.{None, Some, slice_set}
use Rattle.sched_base.specs.declared.PoolId.{PoolId}
use Rattle.sched_model.specs.Commands.{plan_pool}
use Rattle.sched_laws.proofs.Lists.{same_read, some_same}
use Rattle.machine_parts.specs.Places.{state_of}
use Rattle.machine_parts.proofs.AtPlaces.{number-of}
use Rattle.tool_actions.specs.CarriedPlans.{HasCarried}
use Rattle.tool_actions.proofs.Carried.{has-carried}
use Rattle.tool_actions.proofs.Stalling.{stands-read}
use Rattle.tool_actions.proofs.Taking.{home-low}
use Rattle.tool_actions.proofs.carrying.carry_among.Goals as goal
use Rattle.tool_actions.proofs.carrying.carry_among.Goals.{In-Some}

-- the pool of the plan
home : (c : In-Some) → plan_pool (state_of c.args.trail.now) c.args.plan ≡ Some c.in-Some.i.0
home c = number-of _ c.in-Some.i (sym c.requires.home ∙ c.in-Some.is)

low : (c : In-Some) → c.in-Some.i.0 < 16
low c = home-low c.args.trail.now c.requires.goes c.args.plan c.in-Some.i.0 c.requires.accepted (home c) c.requires.keeps

below : (c : In-Some) → c.in-Some.i.0 < length c.args.slots.now
below c = (let few = low c in let count = c.requires.stand.count in omega (arith, few, count))

pub bounds-slots-i : goal.bounds-slots-i
bounds-slots-i c = below (goal.at.bounds-slots-i c).In-Some

pub carry_kept-requires-clause-stands : goal.carry_kept-requires-clause-stands
carry_kept-requires-clause-stands c = stands-read c.args.trail.now c.args.slots.now c.requires.stand c.in-Some.i.0 c.index-slots-i.result (below (goal.at.carry_kept-requires-clause-stands c).In-Some)

pub carry_kept-requires-clause-home : goal.carry_kept-requires-clause-home
carry_kept-requires-clause-home c = home (goal.at.carry_kept-requires-clause-home c).In-Some

pub returns-in-Some-clause-some : goal.returns-in-Some-clause-some
returns-in-Some-clause-some c i is =
    let at = (goal.at.returns-in-Some-clause-some c).In-Some in
    let w = c.args.trail.now in
    let slots = c.args.slots.now in
    let k = c.in-Some.i.0 in
    let new = c.carry_kept.new.slot in
    let same : c.in-Some.i ≡ i = some_same (sym c.in-Some.is ∙ is) in
    subst (λ (j : PoolId). HasCarried w c.args.t.0 c.args.plan j.0 slots (slice_set slots k new)) same
    (has-carried w c.args.t.0 c.args.plan k slots _ new c.requires.keeps c.requires.now (same_read slots k None c.index-slots-i.result (below at)) (c.requires.stand.each k (low at)).suits c.carry_kept.ensures)

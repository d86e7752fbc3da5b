use Rattle.std.proofs.Common.{◌≡◌, ◌<◌, ◌∙◌, length, refl, sym, ap, arith}
use Rattle.std.specs.Prelude.{Option, None, Some}
use Rattle.sched_base.specs.declared.PoolId.{PoolId}
use Rattle.sched_model.specs.declared.action.Action.TheVariants.{Moved}
use Rattle.sched_model.specs.Actions.{home_pool_of_core}
use Rattle.journal_core.specs.Parts.{core_to}
use Rattle.cpupool.specs.declared.moves.Move.{Move}
use Rattle.cpupool.specs.declared.moves.Move.TheVariants as move
use Rattle.machine_parts.specs.Places.{state_of}
use Rattle.machine_parts.proofs.AtPlaces.{core_below, number-of}
use Rattle.tool_actions.specs.Acts.{told_event}
use Rattle.tool_actions.proofs.Acting.{parts-on}
use Rattle.tool_actions.proofs.CoreMoves.{leaves-some, move-told, parts-begin, target-there, way-there, way-told}
use Rattle.tool_actions.proofs.Stalling.{stands-read}
use Rattle.tool_actions.proofs.cores.move_core.Goals as goal
use Rattle.tool_actions.proofs.cores.move_core.Goals.{In-Some, In-Some-Res-default-None, In-Some-Res-default-Some}

-- the pool that the core joins
way : (c : In-Some-Res-default-Some) → c.args.tool.now.part.under_way ≡ Some (core_to c.args.r.0 (Some c.in-Some-Res-default-Some.i.0))
way c =
    let part = c.args.tool.now.part in
    let arm = c.in-Some-Res-default-Some in
    let begins = parts-begin c.args.trail.now c.args.slots.now c.args.tool.now c.requires.parts c.args.t.0 (Moved c.args.r) c.requires.now c.requires.enabled in
    let there = way-there c.args.trail.now c.args.tool.now c.args.t.0 c.args.r.0 begins in
    way-told part part.under_way c.args.r.0 there.0 arm.field-0-0 (Some arm.i) there.1
    (sym c.moving.ensures.way ∙ arm.is ∙ ap (λ (x : Move). Some x) arm.field-0-is ∙ ap (λ (to : Option PoolId). Some (move.Res arm.field-0-0 to)) arm.field-0-1-is)

below : (c : In-Some-Res-default-Some) → c.in-Some-Res-default-Some.i.0 < length c.args.slots.now
below c =
    let begins = parts-begin c.args.trail.now c.args.slots.now c.args.tool.now c.requires.parts c.args.t.0 (Moved c.args.r) c.requires.now c.requires.enabled in
    let few = target-there c.args.trail.now c.args.tool.now c.args.t.0 c.args.r.0 begins c.in-Some-Res-default-Some.i.0 (way c) in
    let count = c.requires.parts.stand.count in
    omega (arith, few, count)

pub bounds-slots-i : goal.bounds-slots-i
bounds-slots-i c = below (goal.at.bounds-slots-i c).In-Some-Res-default-Some

pub join_core-requires-clause-way : goal.join_core-requires-clause-way
join_core-requires-clause-way c = way (goal.at.join_core-requires-clause-way c).In-Some-Res-default-Some

pub join_core-requires-clause-stands : goal.join_core-requires-clause-stands
join_core-requires-clause-stands c =
    stands-read c.args.trail.now c.args.slots.now c.requires.parts.stand c.in-Some-Res-default-Some.i.0 c.index-slots-i.result (below (goal.at.join_core-requires-clause-stands c).In-Some-Res-default-Some)

-- the core has no target, so it leaves the pool that has it
way_out : (c : In-Some-Res-default-None) → c.args.tool.now.part.under_way ≡ Some (core_to c.args.r.0 None)
way_out c =
    let part = c.args.tool.now.part in
    let arm = c.in-Some-Res-default-None in
    let begins = parts-begin c.args.trail.now c.args.slots.now c.args.tool.now c.requires.parts c.args.t.0 (Moved c.args.r) c.requires.now c.requires.enabled in
    let there = way-there c.args.trail.now c.args.tool.now c.args.t.0 c.args.r.0 begins in
    way-told part part.under_way c.args.r.0 there.0 arm.field-0-0 None there.1
    (sym c.moving.ensures.way ∙ arm.is ∙ ap (λ (x : Move). Some x) arm.field-0-is ∙ ap (λ (to : Option PoolId). Some (move.Res arm.field-0-0 to)) arm.field-0-1-is)

home : (c : In-Some) → home_pool_of_core (state_of c.args.trail.now) c.args.r.0 ≡ Some c.in-Some.home.0
home c = (let w = c.args.trail.now in number-of _ c.in-Some.home (sym (c.home_of_core.ensures w.input (state_of w) c.requires.parts.known) ∙ c.in-Some.is))

home_below : (c : In-Some) → c.in-Some.home.0 < length c.args.slots.now
home_below c = core_below c.args.trail.now c.args.slots.now c.args.tool.now c.requires.parts c.args.r.0 c.in-Some.home.0 (home c)

pub unreachable-requires : goal.unreachable-requires
unreachable-requires c =
    let w = c.args.trail.now in
    leaves-some w c.requires.parts.goes c.args.tool.now c.requires.parts.known c.args.r.0 c.requires.enabled (way_out (goal.at.unreachable-requires c).In-Some-Res-default-None) c.home_of_core.result (c.home_of_core.ensures w.input (state_of w) c.requires.parts.known) c.in_default.is

pub bounds-slots-home : goal.bounds-slots-home
bounds-slots-home c = home_below (goal.at.bounds-slots-home c).In-Some

pub leave_core-requires-clause-way : goal.leave_core-requires-clause-way
leave_core-requires-clause-way c = way_out (goal.at.leave_core-requires-clause-way c).In-Some-Res-default-None

pub leave_core-requires-clause-home : goal.leave_core-requires-clause-home
leave_core-requires-clause-home c = home (goal.at.leave_core-requires-clause-home c).In-Some

pub leave_core-requires-clause-stands : goal.leave_core-requires-clause-stands
leave_core-requires-clause-stands c = stands-read c.args.trail.now c.args.slots.now c.requires.parts.stand c.in-Some.home.0 c.index-slots-home.result (home_below (goal.at.leave_core-requires-clause-stands c).In-Some)

-- nothing but a core is on its way
pub unreachable-requires-in-Some-Dom : goal.unreachable-requires-in-Some-Dom
unreachable-requires-in-Some-Dom c =
    let part = c.args.tool.now.part in
    let begins = parts-begin c.args.trail.now c.args.slots.now c.args.tool.now c.requires.parts c.args.t.0 (Moved c.args.r) c.requires.now c.requires.enabled in
    let there = way-there c.args.trail.now c.args.tool.now c.args.t.0 c.args.r.0 begins in
    let told = move-told part part.under_way c.args.r.0 there.0 c.moving.result there.1 c.moving.ensures.way in
    let other = sym told ∙ c.in-Some-Dom.is ∙ ap (λ (x : Move). Some x) c.in-Some-Dom.field-0-is in
    cc

pub unreachable-requires-in-None : goal.unreachable-requires-in-None
unreachable-requires-in-None c =
    let part = c.args.tool.now.part in
    let begins = parts-begin c.args.trail.now c.args.slots.now c.args.tool.now c.requires.parts c.args.t.0 (Moved c.args.r) c.requires.now c.requires.enabled in
    let there = way-there c.args.trail.now c.args.tool.now c.args.t.0 c.args.r.0 begins in
    let told = move-told part part.under_way c.args.r.0 there.0 c.moving.result there.1 c.moving.ensures.way in
    let other = sym told ∙ c.in-None.is in
    cc

pub returns-in-Some-Res-default-Some : goal.returns-in-Some-Res-default-Some
returns-in-Some-Res-default-Some c = record {
  event_is = c.join_core.ensures.event;
  parts = (let next = told_event c.args.trail.now c.args.t.0 c.join_core.result in parts-on c.args.trail.now c.args.slots.now c.requires.parts.stand next c.join_core.new.tool refl c.in-Some-Res-default-Some.i.0 c.join_core.new.slot c.join_core.ensures.acted c.join_core.ensures.stands);
  counts = c.join_core.ensures.counts;
}

pub returns-in-Some : goal.returns-in-Some
returns-in-Some c = record {
  event_is = c.leave_core.ensures.event;
  parts = (let next = told_event c.args.trail.now c.args.t.0 c.leave_core.result in parts-on c.args.trail.now c.args.slots.now c.requires.parts.stand next c.leave_core.new.tool refl c.in-Some.home.0 c.leave_core.new.slot c.leave_core.ensures.acted c.leave_core.ensures.stands);
  counts = c.leave_core.ensures.counts;
}

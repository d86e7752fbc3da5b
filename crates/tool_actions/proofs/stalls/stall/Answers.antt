use Rattle.std.proofs.Common.{◌≡◌, ◌/◌, ◌<◌, length, refl, arith}
use Rattle.std.specs.Prelude.{option_map}
use Rattle.sched_base.specs.Numbers.{pool as pool_number}
use Rattle.sched_model.specs.Actions.{home_pool_of_core}
use Rattle.machine_parts.specs.Places.{state_of}
use Rattle.tool_actions.specs.Acts.{told_event}
use Rattle.tool_actions.proofs.Acting.{parts-alone}
use Rattle.tool_actions.proofs.Stalling.{counted_state, line-left, next-below, next-in, next-none, some-processor, stall-counts-in, stall-counts-none, stall-parts-in, stands-read, taken-is, taken-known}
use Rattle.tool_actions.proofs.stalls.stall.Goals as goal
use Rattle.tool_actions.proofs.stalls.stall.Goals.{In-Some}

-- the pool that has the processor, told in the state that the trail leads to
told : (c : In-Some) → c.home_of_core.result ≡ option_map pool_number (home_pool_of_core (state_of c.args.trail.now) (c.take_stall-line.result.cpu.0 / c.args.granularity))
told c =
    let w = c.args.trail.now in
    let line = c.take_stall-line in
    c.home_of_core.ensures w.input (counted_state w)
    (taken-known w c.args.slots.now c.args.tool.now c.requires.parts c.requires.enabled c.args.t.0 c.args.granularity c.requires.now c.requires.granularity line.result line.ensures.line line.new.self line.ensures.next)

-- that pool is one of the places
below : (c : In-Some) → c.in-Some.i.0 < length c.args.slots.now
below c =
    let line = c.take_stall-line in
    next-below c.args.trail.now c.args.slots.now c.args.tool.now c.requires.parts c.requires.enabled c.args.t.0 c.args.granularity c.requires.now c.requires.granularity line.result line.ensures.line line.new.self line.ensures.next
    c.home_of_core.result (told c) c.in-Some.i c.in-Some.is

pub take_stall-line-requires : goal.take_stall-line-requires
take_stall-line-requires c = line-left c.args.trail.now c.args.slots.now c.args.tool.now c.requires.parts c.requires.enabled

pub nonzero_div-line : goal.nonzero_div-line
nonzero_div-line c =
    let some = some-processor c.args.trail.now c.args.slots.now c.args.tool.now c.requires.parts c.requires.enabled in
    let same = c.requires.granularity in
    omega (arith, some, same)

pub stall_in_none-requires-clause-next : goal.stall_in_none-requires-clause-next
stall_in_none-requires-clause-next c =
    let w = c.args.trail.now in
    let line = c.take_stall-line in
    let known = taken-known w c.args.slots.now c.args.tool.now c.requires.parts c.requires.enabled c.args.t.0 c.args.granularity c.requires.now c.requires.granularity line.result line.ensures.line line.new.self line.ensures.next in
    next-none c.args.trail.now c.args.slots.now c.args.tool.now c.requires.parts c.requires.enabled c.args.t.0 c.args.granularity c.requires.now c.requires.granularity line.result line.ensures.line line.new.self line.ensures.next
    c.home_of_core.result (c.home_of_core.ensures w.input (counted_state w) known) c.in-None.is

pub stall_in_none-requires-clause-counted : goal.stall_in_none-requires-clause-counted
stall_in_none-requires-clause-counted c =
    let line = c.take_stall-line in
    taken-is c.args.trail.now c.args.slots.now c.args.tool.now c.requires.parts c.requires.enabled c.args.t.0 c.args.granularity c.requires.now c.requires.granularity line.result line.ensures.line line.new.self line.ensures.next

pub bounds-slots-i : goal.bounds-slots-i
bounds-slots-i c = below (goal.at.bounds-slots-i c).In-Some

pub stall_in-requires-clause-next : goal.stall_in-requires-clause-next
stall_in-requires-clause-next c =
    let line = c.take_stall-line in
    next-in c.args.trail.now c.args.slots.now c.args.tool.now c.requires.parts c.requires.enabled c.args.t.0 c.args.granularity c.requires.now c.requires.granularity line.result line.ensures.line line.new.self line.ensures.next
    c.home_of_core.result (told (goal.at.stall_in-requires-clause-next c).In-Some) c.in-Some.i c.in-Some.is

pub stall_in-requires-clause-stands : goal.stall_in-requires-clause-stands
stall_in-requires-clause-stands c =
    stands-read c.args.trail.now c.args.slots.now c.requires.parts.stand c.in-Some.i.0 c.index-slots-i.result (below (goal.at.stall_in-requires-clause-stands c).In-Some)

pub returns-in-None-clause-parts : goal.returns-in-None-clause-parts
returns-in-None-clause-parts c = parts-alone c.args.trail.now c.args.slots.now c.requires.parts.stand (told_event c.args.trail.now c.args.t.0 c.stall_in_none.result) c.stall_in_none.new.tool refl c.stall_in_none.ensures.acted

pub returns-in-None-clause-counts : goal.returns-in-None-clause-counts
returns-in-None-clause-counts c =
    let line = c.take_stall-line in
    stall-counts-none c.args.trail.now c.args.slots.now c.args.tool.now c.requires.parts c.requires.enabled c.args.t.0 c.args.granularity c.requires.now c.requires.granularity line.result line.ensures.line line.new.self line.ensures.next c.stall_in_none.new.tool c.stall_in_none.ensures.counts

pub returns-in-Some-clause-parts : goal.returns-in-Some-clause-parts
returns-in-Some-clause-parts c =
    let line = c.take_stall-line in
    stall-parts-in c.args.trail.now c.args.slots.now c.args.tool.now c.requires.parts c.requires.enabled c.args.t.0 c.args.granularity c.requires.now c.requires.granularity line.result line.ensures.line line.new.self line.ensures.next
    c.in-Some.i.0 c.stall_in.result c.stall_in.new.slot c.stall_in.ensures.acted c.stall_in.ensures.stands

pub returns-in-Some-clause-counts : goal.returns-in-Some-clause-counts
returns-in-Some-clause-counts c =
    let line = c.take_stall-line in
    stall-counts-in c.args.trail.now c.args.slots.now c.args.tool.now c.requires.parts c.requires.enabled c.args.t.0 c.args.granularity c.requires.now c.requires.granularity line.result line.ensures.line line.new.self line.ensures.next

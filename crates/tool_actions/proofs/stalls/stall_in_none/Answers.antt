use Rattle.std.proofs.Common.{arith}
use Rattle.std.specs.Prelude.{None}
use Rattle.tool_actions.proofs.Stalling.{acted-none, counted-is, counted_state, counts-none, end-early, event-none, free-there}
use Rattle.tool_actions.proofs.stalls.stall_in_none.Goals as goal

pub overflow_add-t : goal.overflow_add-t
overflow_add-t c = (let early = end-early c.args.trail.now c.args.t.0 c.args.line None c.requires.next in omega (arith, early))

pub stall_free-until-requires : goal.stall_free-until-requires
stall_free-until-requires c = free-there c.args.trail.now c.args.t.0 c.args.line c.requires.next c.args.tool.now c.requires.counted

pub returns-clause-event : goal.returns-clause-event
returns-clause-event c =
    let w = c.args.trail.now in
    let known = counted-is w c.args.t.0 c.args.line c.requires.next c.args.tool.now c.requires.counted in
    event-none w c.args.t.0 c.args.line c.requires.next c.args.tool.now c.requires.counted c.stall_free-until.result (c.stall_free-until.ensures.end w.input (counted_state w) known c.requires.next.home_is)

pub returns-clause-acted : goal.returns-clause-acted
returns-clause-acted c =
    let w = c.args.trail.now in
    let known = counted-is w c.args.t.0 c.args.line c.requires.next c.args.tool.now c.requires.counted in
    let end = c.stall_free-until.result in
    let is = c.stall_free-until.ensures.end w.input (counted_state w) known c.requires.next.home_is in
    acted-none w c.args.t.0 c.args.line c.requires.next c.args.tool.now c.requires.counted end is c.stall_free-until.new.self (c.stall_free-until.ensures.state w.input (counted_state w) known c.requires.next.home_is) _
    (event-none w c.args.t.0 c.args.line c.requires.next c.args.tool.now c.requires.counted end is)

pub returns-clause-counts : goal.returns-clause-counts
returns-clause-counts c =
    let w = c.args.trail.now in
    let known = counted-is w c.args.t.0 c.args.line c.requires.next c.args.tool.now c.requires.counted in
    counts-none w c.args.t.0 c.args.line c.requires.next c.args.tool.now c.requires.counted c.stall_free-until.result (c.stall_free-until.ensures.end w.input (counted_state w) known c.requires.next.home_is)
    c.stall_free-until.new.self (c.stall_free-until.ensures.state w.input (counted_state w) known c.requires.next.home_is)

use Rattle.std.proofs.Common.{arith}
use Rattle.std.specs.Prelude.{Some}
use Rattle.tool_actions.proofs.Stalling.{acted-in, end-early, event-in, stands-in}
use Rattle.tool_actions.proofs.stalls.stall_in.Goals as goal

pub overflow_add-t : goal.overflow_add-t
overflow_add-t c = (let early = end-early c.args.trail.now c.args.t.0 c.args.line (Some c.args.place) c.requires.next in omega (arith, early))

pub returns-clause-event : goal.returns-clause-event
returns-clause-event c = event-in c.args.trail.now c.args.t.0 c.args.line c.args.place c.requires.next c.args.slot.now c.requires.stands c.stall-until.result c.stall-until.ensures.pool

pub returns-clause-stands : goal.returns-clause-stands
returns-clause-stands c =
    let w = c.args.trail.now in
    let slot = c.args.slot.now in
    let end = c.stall-until.result in
    let is = c.stall-until.ensures.pool in
    stands-in w c.args.t.0 c.args.line c.args.place c.requires.next slot c.requires.stands end is _ (event-in w c.args.t.0 c.args.line c.args.place c.requires.next slot c.requires.stands end is) c.stall-until.new.self c.stall-until.ensures.after

pub returns-clause-acted : goal.returns-clause-acted
returns-clause-acted c =
    let w = c.args.trail.now in
    let slot = c.args.slot.now in
    let end = c.stall-until.result in
    let is = c.stall-until.ensures.pool in
    acted-in w c.args.t.0 c.args.line c.args.place c.requires.next slot c.requires.stands end is _ (event-in w c.args.t.0 c.args.line c.args.place c.requires.next slot c.requires.stands end is)

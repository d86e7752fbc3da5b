use Rattle.std.proofs.Common.{◌≡◌, arith}
use Rattle.std.specs.Prelude.{Some, slice_get}
use Rattle.sched_plain.proofs.Bridges.{stands-early, stands-state}
use Rattle.sched_plain.proofs.Stalling.{slice_get-read, stall-span, stall-event, stall-state}
use Rattle.sched_plain.proofs.stall.stall.Goals as goal
use Rattle.sched_plain.proofs.stall.stall.Goals.{In-Some}

-- the line that was read is the next one
next_line : (c : In-Some) → slice_get c.args.machine.now.work.stalls c.args.state.now.next_stall ≡ Some c.in-Some.line.now
next_line c = rw c.as_slice.ensures at (slice_get-read c.as_slice.result.now c.args.state.now.next_stall c.in-Some.line.now c.in-Some.ensures.lookup.3.0 (c.in-Some.ensures.lookup.3.1 c.in-Some.line.now))

pub overflow_add-state : goal.overflow_add-state
overflow_add-state c = (
    let early = stands-early c.args.machine.now c.args.state.now c.requires.stands in
    let low = stall-span c.args.machine.now c.args.state.now c.in-Some.line.now c.requires.stands (next_line (goal.at.overflow_add-state c).In-Some) in
    omega (arith, early, low))

pub stall_end_of-until-requires-clause-few : goal.stall_end_of-until-requires-clause-few
stall_end_of-until-requires-clause-few c = (stands-state c.args.machine.now c.args.state.now c.requires.stands).few_pools

pub stalled-requires-clause-few : goal.stalled-requires-clause-few
stalled-requires-clause-few c = (stands-state c.args.machine.now c.args.state.now c.requires.stands).few_pools

pub returns-clause-event : goal.returns-clause-event
returns-clause-event c = stall-event c.args.machine.now c.args.state.now c.in-Some.line.now (next_line (goal.at.returns-clause-event c).In-Some) c.stall_end_of-until.result c.stall_end_of-until.ensures

pub returns-clause-state : goal.returns-clause-state
returns-clause-state c = stall-state c.args.machine.now c.args.state.now c.in-Some.line.now (next_line (goal.at.returns-clause-state c).In-Some) c.stall_end_of-until.result c.stall_end_of-until.ensures c.stalled.new.state c.stalled.ensures

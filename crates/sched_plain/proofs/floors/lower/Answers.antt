use Rattle.std.proofs.Common.{sym, arith}
use Rattle.sched_plain.proofs.FloorLists.{lowered_none, set_past}
use Rattle.sched_plain.proofs.floors.lower.Goals as goal

pub returns-then-r-lt64-clause-waits : goal.returns-then-r-lt64-clause-waits
returns-then-r-lt64-clause-waits c = lowered_none c.args.r c.args.waits.now

pub returns-else-r-lt64-clause-floors : goal.returns-else-r-lt64-clause-floors
returns-else-r-lt64-clause-floors c = sym (set_past c.args.floors.now c.args.r _ (omega arith))

pub returns-else-r-lt64-clause-waits : goal.returns-else-r-lt64-clause-waits
returns-else-r-lt64-clause-waits c = sym (set_past c.args.waits.now c.args.r _ (omega arith))

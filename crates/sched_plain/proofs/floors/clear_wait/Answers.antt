use Rattle.std.proofs.Common.{sym, arith}
use Rattle.sched_plain.proofs.FloorLists.{set_past}
use Rattle.sched_plain.proofs.floors.clear_wait.Goals as goal

pub returns-else-n-lt64 : goal.returns-else-n-lt64
returns-else-n-lt64 c = sym (set_past c.args.waits.now c.args.n 0 (omega arith))

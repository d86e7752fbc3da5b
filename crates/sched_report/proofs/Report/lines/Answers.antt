use Rattle.std.proofs.Common.{arith}
use Rattle.sched_report.proofs.Tells.{few-cores}
use Rattle.sched_report.proofs.Report.lines.Goals as goal

pub overflow_cast-result-2 : goal.overflow_cast-result-2
overflow_cast-result-2 c = omega (arith, few-cores c.self.invariant)

pub overflow_add-result : goal.overflow_add-result
overflow_add-result c = omega (arith, few-cores c.self.invariant)

pub overflow_add-result-2 : goal.overflow_add-result-2
overflow_add-result-2 c = omega (arith, few-cores c.self.invariant)

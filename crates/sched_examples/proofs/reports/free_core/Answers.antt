use Rattle.sched_examples.proofs.ReportsComputed.{free_core-report}
use Rattle.sched_examples.proofs.reports.free_core.Goals as goal

pub returns : goal.returns
returns c = free_core-report

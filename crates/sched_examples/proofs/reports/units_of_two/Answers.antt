use Rattle.sched_examples.proofs.ReportsComputed.{units_of_two-report}
use Rattle.sched_examples.proofs.reports.units_of_two.Goals as goal

pub returns : goal.returns
returns c = units_of_two-report

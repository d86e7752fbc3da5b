use Rattle.sched_examples.proofs.ReportsComputed.{late_unit_is_kept-report}
use Rattle.sched_examples.proofs.reports.late_unit_is_kept.Goals as goal

pub returns : goal.returns
returns c = late_unit_is_kept-report

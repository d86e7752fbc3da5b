use Rattle.sched_examples.proofs.ReportsComputed.{several_stays-report, several_stays-text}
use Rattle.sched_examples.proofs.reports.several_stays.Goals as goal

pub returns-clause-report : goal.returns-clause-report
returns-clause-report c = several_stays-report

pub returns-clause-text : goal.returns-clause-text
returns-clause-text c = several_stays-text

use Rattle.sched_examples.proofs.RtdsRuns.{budgets_and_deadlines-run, budgets_and_deadlines-sound}
use Rattle.sched_examples.proofs.rtds.budgets_and_deadlines.Goals as goal

pub returns-clause-run : goal.returns-clause-run
returns-clause-run c = budgets_and_deadlines-run

pub returns-clause-sound : goal.returns-clause-sound
returns-clause-sound c = budgets_and_deadlines-sound

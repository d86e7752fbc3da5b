use Rattle.sched_examples.proofs.RtdsRuns.{new_budget-run, new_budget-sound}
use Rattle.sched_examples.proofs.rtds.new_budget.Goals as goal

pub returns-clause-run : goal.returns-clause-run
returns-clause-run c = new_budget-run

pub returns-clause-sound : goal.returns-clause-sound
returns-clause-sound c = new_budget-sound

use Rattle.sched_examples.proofs.RtdsRuns.{new_budget_while_running-run, new_budget_while_running-sound}
use Rattle.sched_examples.proofs.rtds.new_budget_while_running.Goals as goal

pub returns-clause-run : goal.returns-clause-run
returns-clause-run c = new_budget_while_running-run

pub returns-clause-sound : goal.returns-clause-sound
returns-clause-sound c = new_budget_while_running-sound

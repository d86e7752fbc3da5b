use Rattle.sched_examples.proofs.Credit2Runs.{weight_in_mid_run-run, weight_in_mid_run-sound}
use Rattle.sched_examples.proofs.credit2.weight_in_mid_run.Goals as goal

pub returns-clause-run : goal.returns-clause-run
returns-clause-run c = weight_in_mid_run-run

pub returns-clause-sound : goal.returns-clause-sound
returns-clause-sound c = weight_in_mid_run-sound

use Rattle.sched_examples.proofs.CapsRuns.{cap_in_mid_run-run, cap_in_mid_run-sound}
use Rattle.sched_examples.proofs.caps.cap_in_mid_run.Goals as goal

pub returns-clause-run : goal.returns-clause-run
returns-clause-run c = cap_in_mid_run-run

pub returns-clause-sound : goal.returns-clause-sound
returns-clause-sound c = cap_in_mid_run-sound

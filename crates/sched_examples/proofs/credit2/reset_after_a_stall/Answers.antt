use Rattle.sched_examples.proofs.Credit2Runs.{reset_after_a_stall-run, reset_after_a_stall-sound}
use Rattle.sched_examples.proofs.credit2.reset_after_a_stall.Goals as goal

pub returns-clause-run : goal.returns-clause-run
returns-clause-run c = reset_after_a_stall-run

pub returns-clause-sound : goal.returns-clause-sound
returns-clause-sound c = reset_after_a_stall-sound

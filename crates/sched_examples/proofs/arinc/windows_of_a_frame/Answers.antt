use Rattle.sched_examples.proofs.ArincRuns.{windows_of_a_frame-run, windows_of_a_frame-sound}
use Rattle.sched_examples.proofs.arinc.windows_of_a_frame.Goals as goal

pub returns-clause-run : goal.returns-clause-run
returns-clause-run c = windows_of_a_frame-run

pub returns-clause-sound : goal.returns-clause-sound
returns-clause-sound c = windows_of_a_frame-sound

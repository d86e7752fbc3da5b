use Rattle.sched_examples.proofs.ArincRuns.{frames_by_command-run, frames_by_command-sound}
use Rattle.sched_examples.proofs.arinc.frames_by_command.Goals as goal

pub returns-clause-run : goal.returns-clause-run
returns-clause-run c = frames_by_command-run

pub returns-clause-sound : goal.returns-clause-sound
returns-clause-sound c = frames_by_command-sound

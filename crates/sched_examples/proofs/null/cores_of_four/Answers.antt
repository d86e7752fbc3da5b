use Rattle.sched_examples.proofs.NullRuns.{cores_of_four-run, cores_of_four-sound}
use Rattle.sched_examples.proofs.null.cores_of_four.Goals as goal

pub returns-clause-run : goal.returns-clause-run
returns-clause-run c = cores_of_four-run

pub returns-clause-sound : goal.returns-clause-sound
returns-clause-sound c = cores_of_four-sound

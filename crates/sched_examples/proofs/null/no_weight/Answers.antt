use Rattle.sched_examples.proofs.NullRuns.{no_weight-run, no_weight-sound}
use Rattle.sched_examples.proofs.null.no_weight.Goals as goal

pub returns-clause-run : goal.returns-clause-run
returns-clause-run c = no_weight-run

pub returns-clause-sound : goal.returns-clause-sound
returns-clause-sound c = no_weight-sound

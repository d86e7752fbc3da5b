use Rattle.sched_examples.proofs.Credit2Runs.{two_weights-run, two_weights-sound}
use Rattle.sched_examples.proofs.credit2.two_weights.Goals as goal

pub returns-clause-run : goal.returns-clause-run
returns-clause-run c = two_weights-run

pub returns-clause-sound : goal.returns-clause-sound
returns-clause-sound c = two_weights-sound

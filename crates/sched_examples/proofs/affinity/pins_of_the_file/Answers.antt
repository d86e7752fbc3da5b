use Rattle.sched_examples.proofs.AffinityRuns.{pins_of_the_file-run, pins_of_the_file-sound}
use Rattle.sched_examples.proofs.affinity.pins_of_the_file.Goals as goal

pub returns-clause-run : goal.returns-clause-run
returns-clause-run c = pins_of_the_file-run

pub returns-clause-sound : goal.returns-clause-sound
returns-clause-sound c = pins_of_the_file-sound

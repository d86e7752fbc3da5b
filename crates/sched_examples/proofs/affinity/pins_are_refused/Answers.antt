use Rattle.sched_examples.proofs.AffinityRuns.{pins_are_refused-run, pins_are_refused-sound}
use Rattle.sched_examples.proofs.affinity.pins_are_refused.Goals as goal

pub returns-clause-run : goal.returns-clause-run
returns-clause-run c = pins_are_refused-run

pub returns-clause-sound : goal.returns-clause-sound
returns-clause-sound c = pins_are_refused-sound

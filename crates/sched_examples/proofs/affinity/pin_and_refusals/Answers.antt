use Rattle.sched_examples.proofs.AffinityRuns.{pin_and_refusals-run, pin_and_refusals-sound}
use Rattle.sched_examples.proofs.affinity.pin_and_refusals.Goals as goal

pub returns-clause-run : goal.returns-clause-run
returns-clause-run c = pin_and_refusals-run

pub returns-clause-sound : goal.returns-clause-sound
returns-clause-sound c = pin_and_refusals-sound

use Rattle.sched_examples.proofs.CapsRuns.{late_refill-run, late_refill-sound}
use Rattle.sched_examples.proofs.caps.late_refill.Goals as goal

pub returns-clause-run : goal.returns-clause-run
returns-clause-run c = late_refill-run

pub returns-clause-sound : goal.returns-clause-sound
returns-clause-sound c = late_refill-sound

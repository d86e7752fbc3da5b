use Rattle.sched_examples.proofs.RtdsRuns.{late_replenishment-run, late_replenishment-sound}
use Rattle.sched_examples.proofs.rtds.late_replenishment.Goals as goal

pub returns-clause-run : goal.returns-clause-run
returns-clause-run c = late_replenishment-run

pub returns-clause-sound : goal.returns-clause-sound
returns-clause-sound c = late_replenishment-sound

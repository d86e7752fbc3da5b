use Rattle.sched_examples.proofs.RtdsRuns.{urgent_wake-run, urgent_wake-sound}
use Rattle.sched_examples.proofs.rtds.urgent_wake.Goals as goal

pub returns-clause-run : goal.returns-clause-run
returns-clause-run c = urgent_wake-run

pub returns-clause-sound : goal.returns-clause-sound
returns-clause-sound c = urgent_wake-sound

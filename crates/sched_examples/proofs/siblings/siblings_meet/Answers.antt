use Rattle.sched_examples.proofs.SiblingsRuns.{siblings_meet-run, siblings_meet-sound}
use Rattle.sched_examples.proofs.siblings.siblings_meet.Goals as goal

pub returns-clause-run : goal.returns-clause-run
returns-clause-run c = siblings_meet-run

pub returns-clause-sound : goal.returns-clause-sound
returns-clause-sound c = siblings_meet-sound

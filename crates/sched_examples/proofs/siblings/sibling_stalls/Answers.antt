use Rattle.sched_examples.proofs.SiblingsRuns.{sibling_stalls-run, sibling_stalls-sound}
use Rattle.sched_examples.proofs.siblings.sibling_stalls.Goals as goal

pub returns-clause-run : goal.returns-clause-run
returns-clause-run c = sibling_stalls-run

pub returns-clause-sound : goal.returns-clause-sound
returns-clause-sound c = sibling_stalls-sound

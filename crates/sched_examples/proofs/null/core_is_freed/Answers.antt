use Rattle.sched_examples.proofs.NullRuns.{core_is_freed-run, core_is_freed-sound}
use Rattle.sched_examples.proofs.null.core_is_freed.Goals as goal

pub returns-clause-run : goal.returns-clause-run
returns-clause-run c = core_is_freed-run

pub returns-clause-sound : goal.returns-clause-sound
returns-clause-sound c = core_is_freed-sound

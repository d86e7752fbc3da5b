use Rattle.sched_examples.proofs.NullRuns.{core_is_kept-run, core_is_kept-sound}
use Rattle.sched_examples.proofs.null.core_is_kept.Goals as goal

pub returns-clause-run : goal.returns-clause-run
returns-clause-run c = core_is_kept-run

pub returns-clause-sound : goal.returns-clause-sound
returns-clause-sound c = core_is_kept-sound

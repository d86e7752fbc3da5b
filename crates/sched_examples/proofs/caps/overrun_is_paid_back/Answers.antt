use Rattle.sched_examples.proofs.CapsRuns.{overrun_is_paid_back-run, overrun_is_paid_back-sound}
use Rattle.sched_examples.proofs.caps.overrun_is_paid_back.Goals as goal

pub returns-clause-run : goal.returns-clause-run
returns-clause-run c = overrun_is_paid_back-run

pub returns-clause-sound : goal.returns-clause-sound
returns-clause-sound c = overrun_is_paid_back-sound

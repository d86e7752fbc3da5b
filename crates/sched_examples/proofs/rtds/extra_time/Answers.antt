use Rattle.sched_examples.proofs.RtdsRuns.{extra_time-run, extra_time-sound}
use Rattle.sched_examples.proofs.rtds.extra_time.Goals as goal

pub returns-clause-run : goal.returns-clause-run
returns-clause-run c = extra_time-run

pub returns-clause-sound : goal.returns-clause-sound
returns-clause-sound c = extra_time-sound

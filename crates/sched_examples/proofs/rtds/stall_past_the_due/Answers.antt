use Rattle.sched_examples.proofs.RtdsRuns.{stall_past_the_due-run, stall_past_the_due-sound}
use Rattle.sched_examples.proofs.rtds.stall_past_the_due.Goals as goal

pub returns-clause-run : goal.returns-clause-run
returns-clause-run c = stall_past_the_due-run

pub returns-clause-sound : goal.returns-clause-sound
returns-clause-sound c = stall_past_the_due-sound

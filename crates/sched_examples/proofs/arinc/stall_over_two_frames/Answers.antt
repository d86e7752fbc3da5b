use Rattle.sched_examples.proofs.ArincRuns.{stall_over_two_frames-run, stall_over_two_frames-sound}
use Rattle.sched_examples.proofs.arinc.stall_over_two_frames.Goals as goal

pub returns-clause-run : goal.returns-clause-run
returns-clause-run c = stall_over_two_frames-run

pub returns-clause-sound : goal.returns-clause-sound
returns-clause-sound c = stall_over_two_frames-sound

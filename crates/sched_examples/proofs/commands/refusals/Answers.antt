use Rattle.sched_examples.proofs.CommandsRuns.{refusals-run, refusals-sound}
use Rattle.sched_examples.proofs.commands.refusals.Goals as goal

pub returns-clause-run : goal.returns-clause-run
returns-clause-run c = refusals-run

pub returns-clause-sound : goal.returns-clause-sound
returns-clause-sound c = refusals-sound

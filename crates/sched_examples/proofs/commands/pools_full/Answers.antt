use Rattle.sched_examples.proofs.CommandsRuns.{pools_full-run, pools_full-sound}
use Rattle.sched_examples.proofs.commands.pools_full.Goals as goal

pub returns-clause-run : goal.returns-clause-run
returns-clause-run c = pools_full-run

pub returns-clause-sound : goal.returns-clause-sound
returns-clause-sound c = pools_full-sound

use Rattle.sched_examples.proofs.CommandsRuns.{pause_and_unpause-run, pause_and_unpause-sound}
use Rattle.sched_examples.proofs.commands.pause_and_unpause.Goals as goal

pub returns-clause-run : goal.returns-clause-run
returns-clause-run c = pause_and_unpause-run

pub returns-clause-sound : goal.returns-clause-sound
returns-clause-sound c = pause_and_unpause-sound

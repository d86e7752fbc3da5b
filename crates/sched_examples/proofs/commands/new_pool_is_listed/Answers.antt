use Rattle.sched_examples.proofs.CommandsRuns.{new_pool_is_listed-run, new_pool_is_listed-sound}
use Rattle.sched_examples.proofs.commands.new_pool_is_listed.Goals as goal

pub returns-clause-run : goal.returns-clause-run
returns-clause-run c = new_pool_is_listed-run

pub returns-clause-sound : goal.returns-clause-sound
returns-clause-sound c = new_pool_is_listed-sound

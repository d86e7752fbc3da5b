use Rattle.sched_examples.proofs.CommandsRuns.{core_changes_pool-run, core_changes_pool-sound}
use Rattle.sched_examples.proofs.commands.core_changes_pool.Goals as goal

pub returns-clause-run : goal.returns-clause-run
returns-clause-run c = core_changes_pool-run

pub returns-clause-sound : goal.returns-clause-sound
returns-clause-sound c = core_changes_pool-sound

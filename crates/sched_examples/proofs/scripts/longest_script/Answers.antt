use Rattle.sched_examples.proofs.ScriptsRuns.{longest_script-run, longest_script-sound}
use Rattle.sched_examples.proofs.scripts.longest_script.Goals as goal

pub returns-clause-run : goal.returns-clause-run
returns-clause-run c = longest_script-run

pub returns-clause-sound : goal.returns-clause-sound
returns-clause-sound c = longest_script-sound

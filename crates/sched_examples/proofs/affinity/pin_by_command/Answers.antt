use Rattle.sched_examples.proofs.AffinityRuns.{pin_by_command-run, pin_by_command-sound}
use Rattle.sched_examples.proofs.affinity.pin_by_command.Goals as goal

pub returns-clause-run : goal.returns-clause-run
returns-clause-run c = pin_by_command-run

pub returns-clause-sound : goal.returns-clause-sound
returns-clause-sound c = pin_by_command-sound

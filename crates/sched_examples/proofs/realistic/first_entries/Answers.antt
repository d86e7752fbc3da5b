use Rattle.sched_examples.proofs.RealisticRuns.{first_entries-run, first_entries-sound}
use Rattle.sched_examples.proofs.realistic.first_entries.Goals as goal

pub returns-clause-run : goal.returns-clause-run
returns-clause-run c = first_entries-run

pub returns-clause-sound : goal.returns-clause-sound
returns-clause-sound c = first_entries-sound

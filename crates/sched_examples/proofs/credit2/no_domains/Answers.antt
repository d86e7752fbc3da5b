use Rattle.sched_examples.proofs.Credit2Runs.{no_domains-run, no_domains-sound}
use Rattle.sched_examples.proofs.credit2.no_domains.Goals as goal

pub returns-clause-run : goal.returns-clause-run
returns-clause-run c = no_domains-run

pub returns-clause-sound : goal.returns-clause-sound
returns-clause-sound c = no_domains-sound

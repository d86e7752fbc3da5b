use Rattle.sched_examples.proofs.CommandsRuns.{domain_migrates-run, domain_migrates-sound}
use Rattle.sched_examples.proofs.commands.domain_migrates.Goals as goal

pub returns-clause-run : goal.returns-clause-run
returns-clause-run c = domain_migrates-run

pub returns-clause-sound : goal.returns-clause-sound
returns-clause-sound c = domain_migrates-sound

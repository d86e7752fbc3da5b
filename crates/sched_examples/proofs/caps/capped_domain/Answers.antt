use Rattle.sched_examples.proofs.CapsRuns.{capped_domain-run, capped_domain-sound}
use Rattle.sched_examples.proofs.caps.capped_domain.Goals as goal

pub returns-clause-run : goal.returns-clause-run
returns-clause-run c = capped_domain-run

pub returns-clause-sound : goal.returns-clause-sound
returns-clause-sound c = capped_domain-sound

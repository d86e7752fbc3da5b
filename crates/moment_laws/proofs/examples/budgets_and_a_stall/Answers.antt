use Rattle.moment_laws.proofs.ExamplesComputed.{budgets_stretches, budgets_busy}
use Rattle.moment_laws.proofs.examples.budgets_and_a_stall.Goals as goal

pub returns-clause-stretches : goal.returns-clause-stretches
returns-clause-stretches c = budgets_stretches

pub returns-clause-busy : goal.returns-clause-busy
returns-clause-busy c = budgets_busy

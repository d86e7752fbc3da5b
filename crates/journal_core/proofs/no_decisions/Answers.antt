use Rattle.journal_core.proofs.Grows.{zeros}
use Rattle.journal_core.proofs.no_decisions.Goals as goal

pub returns-clause-none : goal.returns-clause-none
returns-clause-none c r low = zeros 64 r

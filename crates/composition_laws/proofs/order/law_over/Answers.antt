use Rattle.composition_laws.proofs.Entries.{over_at_finish, rest_when_over}
use Rattle.composition_laws.proofs.order.law_over.Goals as goal

pub returns-clause-finish : goal.returns-clause-finish
returns-clause-finish c m before last run = over_at_finish m before last run

pub returns-clause-rest : goal.returns-clause-rest
returns-clause-rest c m entries run over = rest_when_over m entries run over

use Rattle.pool_laws.proofs.Readiness.{ready}
use Rattle.pool_laws.proofs.laws.law_ready.Goals as goal

pub returns : goal.returns
returns c = ready

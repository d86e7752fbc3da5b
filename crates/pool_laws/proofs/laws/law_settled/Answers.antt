use Rattle.pool_laws.proofs.Settled.{settled_again, settled_alone}
use Rattle.pool_laws.proofs.laws.law_settled.Goals as goal

pub returns : goal.returns
returns c = record { again = settled_again; alone = settled_alone }

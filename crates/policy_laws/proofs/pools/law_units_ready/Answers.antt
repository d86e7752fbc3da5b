use Rattle.policy_laws.proofs.Readies as readies
use Rattle.policy_laws.proofs.pools.law_units_ready.Goals as goal

pub returns : goal.returns
returns c = λ g t. readies.units_ready g t

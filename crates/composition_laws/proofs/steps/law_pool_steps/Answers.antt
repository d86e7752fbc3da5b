use Rattle.composition_laws.proofs.PoolSteps.{pool_step}
use Rattle.composition_laws.proofs.steps.law_pool_steps.Goals as goal

pub returns : goal.returns
returns c = pool_step

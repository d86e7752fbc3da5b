use Rattle.composition_laws.proofs.Home.{pool_is_home}
use Rattle.composition_laws.proofs.order.law_home.Goals as goal

pub returns : goal.returns
returns c m checked entries run i t action = pool_is_home m checked entries run i t action

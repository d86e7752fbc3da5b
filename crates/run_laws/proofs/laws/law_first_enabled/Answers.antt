use Rattle.run_laws.proofs.First.{first_is}
use Rattle.run_laws.proofs.laws.law_first_enabled.Goals as goal

pub returns : goal.returns
returns c m s t = first_is m s t

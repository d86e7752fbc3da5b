use Rattle.run_laws.proofs.Moments.{next_moment_is}
use Rattle.run_laws.proofs.laws.law_next_moment.Goals as goal

pub returns : goal.returns
returns c m s t still = next_moment_is m s t still

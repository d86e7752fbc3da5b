use Rattle.core_state.proofs.Leasts.{least_none}
use Rattle.core_state.proofs.dues.least_of.Goals as goal

pub returns-in-None : goal.returns-in-None
returns-in-None c = least_none c.args.dues.now c.in-None.ensures.none

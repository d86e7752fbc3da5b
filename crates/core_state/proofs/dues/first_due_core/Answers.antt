use Rattle.core_state.proofs.Leasts.{first_none, first_some}
use Rattle.core_state.proofs.dues.first_due_core.Goals as goal

pub returns-in-None : goal.returns-in-None
returns-in-None c = first_none c.args.dues.now c.args.t.0 c.in-None.ensures.none

pub returns-in-Some : goal.returns-in-Some
returns-in-Some c = first_some c.args.dues.now c.args.t.0 c.in-Some.id c.in-Some.ensures.come c.in-Some.ensures.first

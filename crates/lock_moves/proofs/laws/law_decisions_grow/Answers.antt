use Rattle.lock_moves.proofs.Deciding.{prefix_grows}
use Rattle.lock_moves.proofs.laws.law_decisions_grow.Goals as goal

pub returns : goal.returns
returns c h longer p r = prefix_grows h longer p r

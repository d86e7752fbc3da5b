use Rattle.lock_moves.proofs.Deciding.{one_more}
use Rattle.lock_moves.proofs.laws.law_decisions.Goals as goal

pub returns : goal.returns
returns c h entry r = one_more h entry r

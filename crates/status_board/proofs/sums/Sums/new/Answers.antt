use Rattle.status_board.proofs.Kept.{kept-none}
use Rattle.status_board.proofs.sums.Sums.new.Goals as goal

pub invariant_of-result : goal.invariant_of-result
invariant_of-result c = kept-none _ _ c.nothing.ensures c.none_decided.ensures.cores c.none_decided.ensures.none

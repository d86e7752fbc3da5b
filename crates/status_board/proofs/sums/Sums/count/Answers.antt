use Rattle.status_board.proofs.Kept.{kept-more, kept-so}
use Rattle.status_board.proofs.sums.Sums.count.Goals as goal

pub invariant_of-self : goal.invariant_of-self
invariant_of-self c =
    kept-so _ _ _ _ _ _ _ (kept-more _ c.args.e.now _ _ _ c.self.invariant) c.push.ensures c.saturating_add-self-inside.ensures c.count_decision.ensures

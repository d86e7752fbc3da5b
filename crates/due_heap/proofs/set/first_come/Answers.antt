use Rattle.due_heap.proofs.Told.{lowest_come, past_till}
use Rattle.due_heap.proofs.set.first_come.Goals as goal

pub returns-then-is_at_hand : goal.returns-then-is_at_hand
returns-then-is_at_hand c =
    lowest_come c.args.moments.now c.args.words.now c.args.t.0 c.lowest.result c.requires
    (past_till c.args.moments.now c.args.words.now c.args.t.0 c.requires (c.is_at_hand.ensures.not_before c.if-is_at_hand.true) (c.is_at_hand.ensures.till c.if-is_at_hand.true)) c.lowest.ensures.none c.lowest.ensures.lowest

use Rattle.std.proofs.Common.{◌∙◌}
use Rattle.lock_moves.proofs.Closing.{emptied_more}
use Rattle.lock_moves.proofs.set.LockSet.close.Goals as goal

pub loop-k-preserved : goal.loop-k-preserved
loop-k-preserved g c = let i = c.loop-k.invariant in let o = c.take.ensures.others in (o.2 ∙ i.0, emptied_more c.loop-k.k _ _ o.1 c.loop-k-test.true i.1)

use Rattle.std.proofs.Common.{◌∙◌}
use Rattle.plain_opening.proofs.Growing.{padded_one_more}
use Rattle.plain_opening.proofs.opening.push_empty.Goals as goal

pub loop-i-preserved : goal.loop-i-preserved
loop-i-preserved g c = c.in_ok-push.ensures.items ∙ rw c.loop-i.invariant (padded_one_more c.args.places.now.items c.loop-i.i)

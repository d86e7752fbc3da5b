use Rattle.std.proofs.Common.{◌∙◌}
use Rattle.std.specs.Prelude.{None}
use Rattle.sched_model.proofs.Replicate.{replicate_one_more}
use Rattle.sched_model.proofs.row.empty_places.Goals as goal

pub loop-i-preserved : goal.loop-i-preserved
loop-i-preserved g c = c.in_ok-push.ensures.items ∙ rw c.loop-i.invariant (replicate_one_more c.loop-i.i None)

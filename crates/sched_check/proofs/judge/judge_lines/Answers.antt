use Rattle.sched_check.proofs.SoFarLemmas.{so_far_more}
use Rattle.sched_check.proofs.judge.judge_lines.Goals as goal

pub loop-rest-preserved : goal.loop-rest-preserved
loop-rest-preserved c = so_far_more c.loop-rest.invariant c.in-Ok.ensures.taken

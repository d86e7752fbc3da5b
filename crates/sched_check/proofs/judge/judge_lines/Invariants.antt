use Rattle.std.proofs.Common.{length}
use Rattle.sched_check.proofs.SoFarLemmas.{SoFar}
use Rattle.sched_check.proofs.judge.judge_lines.Given as goal

abbrev pub invariant-loop-rest : goal.invariant-loop-rest
invariant-loop-rest l = SoFar l.fn.checker l.checker l.fn.schedule l.rest l.passed

abbrev pub decreases-loop-rest : goal.decreases-loop-rest
decreases-loop-rest l = length l.rest

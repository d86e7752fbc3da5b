use Rattle.std.proofs.Common.{◌≡◌}
use Rattle.std.specs.Prelude.{replicate}
use Rattle.sched_base.specs.Numbers.{moment}
use Rattle.pool_records.proofs.opening.no_stalls.Given as goal

abbrev pub invariant-loop-i : goal.invariant-loop-i
invariant-loop-i l = l.ends ≡ replicate l.i (moment 0)

use Rattle.std.proofs.Common.{length, ◌-◌, ◌<◌}
use Rattle.std.specs.Prelude.{◌^◌}
use Rattle.sched_ops.proofs.Wanting.{AreAnswers}
use Rattle.sched_ops.proofs.walk.wanted_where.Given as goal

abbrev pub invariant-loop-r : goal.invariant-loop-r
invariant-loop-r g l =
    record {
      fits : l.set < 2 ^ (length l.cores - l.r);
      answers : AreAnswers (goal.F-post g l.asks) l.cores l.r l.set;
    }

use Rattle.std.proofs.Common.{◌≡◌, ◌+◌, ◌-◌, ◌<◌, ◌^◌}
use Rattle.sched_model.specs.Places.{numbers_from}
use Rattle.cpupool.specs.Verdicts.{named_among}
use Rattle.cpupool.proofs.judge_lists.named_set.Given as goal

abbrev pub invariant-loop-r : goal.invariant-loop-r
invariant-loop-r l =
    record {
      so_far : l.set + named_among l.granularity l.ranges (numbers_from l.r (l.cores - l.r)) ≡ named_among l.granularity l.ranges (numbers_from 0 l.cores);
      below : l.set < 2 ^ l.r;
    }

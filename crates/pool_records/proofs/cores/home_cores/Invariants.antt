use Rattle.std.proofs.Common.{◌≡◌, ◌+◌, ◌<◌, ◌^◌, drop}
use Rattle.sched_model.specs.Pool.{cores_from}
use Rattle.pool_records.proofs.cores.home_cores.Given as goal

abbrev pub invariant-loop-r : goal.invariant-loop-r
invariant-loop-r l =
    record {
      so_far : l.set + cores_from l.r (drop l.r l.cores) ≡ cores_from 0 l.cores;
      below : l.set < 2 ^ l.r;
    }

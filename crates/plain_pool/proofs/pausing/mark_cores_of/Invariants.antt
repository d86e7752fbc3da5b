use Rattle.std.proofs.Common.{◌≡◌, ◌++◌, take, drop, length}
use Rattle.sched_model.specs.Places.{change_each}
use Rattle.pool_records.specs.Marks.{pending_of}
use Rattle.plain_pool.proofs.pausing.mark_cores_of.Given as goal

abbrev pub invariant-loop-r : goal.invariant-loop-r
invariant-loop-r l =
    record {
      so_far : take l.r l.cores ++ change_each l.r (pending_of l.d.0) (drop l.r l.cores) ≡ change_each 0 (pending_of l.d.0) l.initial.cores;
      as_long : length l.cores ≡ length l.initial.cores;
    }

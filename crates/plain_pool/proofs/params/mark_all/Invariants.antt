use Rattle.std.proofs.Common.{◌≡◌, ◌++◌, take, drop, length}
use Rattle.sched_model.specs.Places.{change_each}
use Rattle.pool_records.specs.Marks.{pending_each}
use Rattle.plain_pool.proofs.params.mark_all.Given as goal

abbrev pub invariant-loop-r : goal.invariant-loop-r
invariant-loop-r l =
    record {
      so_far : take l.r l.cores ++ change_each l.r pending_each (drop l.r l.cores) ≡ change_each 0 pending_each l.initial.cores;
      as_long : length l.cores ≡ length l.initial.cores;
    }

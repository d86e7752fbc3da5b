use Rattle.std.proofs.Common.{◌≡◌, ◌++◌, take, drop, length}
use Rattle.sched_model.specs.Places.{change_each}
use Rattle.pool_records.specs.Marks.{due_now_of}
use Rattle.plain_pool.proofs.params.make_due.Given as goal

abbrev pub invariant-loop-r : goal.invariant-loop-r
invariant-loop-r l =
    record {
      so_far : take l.r l.cores ++ change_each l.r (due_now_of l.d.0 l.t.0) (drop l.r l.cores) ≡ change_each 0 (due_now_of l.d.0 l.t.0) l.initial.cores;
      as_long : length l.cores ≡ length l.initial.cores;
    }

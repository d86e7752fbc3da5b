use Rattle.std.proofs.Common.{◌≡◌, ◌++◌, take, drop, length}
use Rattle.sched_model.specs.Places.{same_unit}
use Rattle.sched_model.specs.NullScheduler.{kept_without}
use Rattle.scheduler_records.proofs.null.release_unit.Given as goal

abbrev pub invariant-loop-r : goal.invariant-loop-r
invariant-loop-r l =
    record {
      so_far : take l.r l.kept ++ kept_without (same_unit l.u) (drop l.r l.kept) ≡ kept_without (same_unit l.u) l.initial.kept;
      as_long : length l.kept ≡ length l.initial.kept;
    }

use Rattle.std.proofs.Common.{◌≡◌, ◌≤◌, length, take}
use Rattle.sched_model.specs.Places.{without_unit}
use Rattle.scheduler_records.proofs.queue.drop_unit.Given as goal

abbrev pub invariant-loop-w : goal.invariant-loop-w
invariant-loop-w l =
    record {
      so_far : l.kept ≡ without_unit l.u (take l.w-index l.w-items);
      few : length l.kept ≤ l.w-index;
    }

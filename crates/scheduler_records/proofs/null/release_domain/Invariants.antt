use Rattle.std.proofs.Common.{◌≡◌, ◌++◌, take, drop, length}
use Rattle.std.specs.Prelude.{◌==◌}
use Rattle.sched_base.specs.declared.UnitId.{UnitId}
use Rattle.sched_model.specs.NullScheduler.{kept_without}
use Rattle.scheduler_records.proofs.null.release_domain.Given as goal

abbrev pub invariant-loop-r : goal.invariant-loop-r
invariant-loop-r l =
    record {
      so_far : take l.r l.kept ++ kept_without (λ (u : UnitId). u.dom.0 == l.d.0) (drop l.r l.kept) ≡ kept_without (λ (u : UnitId). u.dom.0 == l.d.0) l.initial.kept;
      as_long : length l.kept ≡ length l.initial.kept;
    }

use Rattle.std.proofs.Common.{◌≡◌, ◌≤◌, length, take}
use Rattle.std.specs.Prelude.{◌==◌, not, filter}
use Rattle.sched_base.specs.declared.UnitId.{UnitId}
use Rattle.plain_schedulers.proofs.queue.dequeue_domain.Given as goal

abbrev pub invariant-loop-u : goal.invariant-loop-u
invariant-loop-u l =
    record {
      so_far : l.kept ≡ filter (λ (w : UnitId). not (w.dom.0 == l.d.0)) (take l.u-index l.u-items);
      few : length l.kept ≤ l.u-index;
    }

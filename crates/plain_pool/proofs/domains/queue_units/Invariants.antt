use Rattle.std.proofs.Common.{◌≡◌, ◌-◌, ◌≤◌, length}
use Rattle.sched_model.specs.Places.{numbers_from}
use Rattle.sched_model.specs.Pool.{pool_with_queued_units}
use Rattle.plain_pool.proofs.domains.queue_units.Given as goal

abbrev pub invariant-loop-n : goal.invariant-loop-n
invariant-loop-n l =
    record {
      so_far : pool_with_queued_units l.granularity l.d.0 (numbers_from l.n (l.count - l.n)) l.pool ≡ pool_with_queued_units l.granularity l.d.0 (numbers_from 0 l.count) l.initial.pool;
      cores : length l.pool.resources ≤ 64;
    }

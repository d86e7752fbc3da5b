use Rattle.sched_plain.proofs.FloorBounds.{all_renews}
use Rattle.sched_plain.proofs.pool_floors.any_unit_renews.Goals as goal

pub returns : goal.returns
returns c none n = all_renews c.args.granularity c.args.t.0 c.args.pool.now c.args.d c.deadline_count.result (c.deadline_count.ensures c.args.granularity c.args.t.0) (c.any_renews.ensures none) n

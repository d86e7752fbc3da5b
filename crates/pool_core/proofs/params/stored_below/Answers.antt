use Rattle.pool_core.proofs.Telling.{told_next}
use Rattle.pool_core.proofs.params.stored_below.Goals as goal

pub loop-n-preserved : goal.loop-n-preserved
loop-n-preserved g c =
    told_next (g.P.Policy.seen c.args.policy.now).scheduler.records c.args.d.0 c.loop-n.n c.args.count c.stored.result c.loop-n.units c.push.new.self c.loop-n-test.true c.loop-n.invariant c.stored.ensures.value c.push.ensures

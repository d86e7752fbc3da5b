use Rattle.plain_pool.proofs.Replenished.{after_replenish-known}
use Rattle.plain_pool.proofs.replenishing.replenish.Goals as goal

pub returns-clause-pool : goal.returns-clause-pool
returns-clause-pool c =
    rw (c.renew-x.ensures.records, c.bring_due_of.ensures) (after_replenish-known c.args.t.0 c.args.u c.args.pool.now c.renew-x.result c.renew-x.ensures.unit)

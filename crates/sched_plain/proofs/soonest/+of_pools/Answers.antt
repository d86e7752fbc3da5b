use Rattle.std.proofs.Common.{rules}
use Rattle.plain_pool.specs.Ready.{AreWhole, ScanFits}
use Rattle.sched_plain.proofs.Turns.{first_place-has, others-have, pools_more, pools_none}
use Rattle.sched_plain.proofs.soonest.+of_pools.Goals as goal

pub of_pool-requires : goal.of_pool-requires
of_pool-requires t c = first_place-has ScanFits c.args.pools.now c.place-item.result c.in-len1-up.len_at_least c.place-item.is c.requires

pub of_pools-requires : goal.of_pools-requires
of_pools-requires t c = (search rules, others-have ScanFits c.args.pools.now c.in-len1-up.len_at_least c.requires)

pub returns-in-empty : goal.returns-in-empty
returns-in-empty t c g whole = pools_none g c.args.best c.args.pools.now c.in-empty.len_below

pub returns-in-len1-up : goal.returns-in-len1-up
returns-in-len1-up t c g whole =
    pools_more g c.args.best c.of_pool.result c.of_pools.result c.args.pools.now c.place-item.result c.in-len1-up.len_at_least c.place-item.is
    (c.of_pool.ensures g (first_place-has (AreWhole g) c.args.pools.now c.place-item.result c.in-len1-up.len_at_least c.place-item.is whole))
    (c.of_pools.ensures g (others-have (AreWhole g) c.args.pools.now c.in-len1-up.len_at_least whole))

use Rattle.pool_core.proofs.Moments.{least_wake, next_is}
use Rattle.pool_core.proofs.due.next_moment.Goals as goal

pub returns : goal.returns
returns g c =
    next_is c.args.guests.now c.args.cores.now (g.P.Policy.seen c.args.policy.now) c.next_wake.result c.least.result c.next_timer.result c.earlier-of_cores.result c.earlier.result c.requires.same c.requires.works
    (least_wake c.args.guests.now.domains c.next_wake.result c.next_wake.ensures.none c.next_wake.ensures.some c.next_wake.ensures.least)
    c.least.ensures (c.next_timer.ensures c.args.cores.now.granularity c.args.guests.now c.requires.on) c.earlier-of_cores.ensures c.earlier.ensures

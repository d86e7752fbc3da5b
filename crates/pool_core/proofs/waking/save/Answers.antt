use Rattle.std.proofs.Common.{sym}
use Rattle.pool_core.specs.Seen.{pool_of}
use Rattle.pool_core.proofs.Asking.{saved_away, saving_at}
use Rattle.pool_core.proofs.waking.save.Goals as goal

pub enqueue-requires : goal.enqueue-requires
enqueue-requires g c =
    let there = saving_at c.args.cores.now.resources c.args.r.0 c.in-Some.u (sym c.in-Some.ensures.unit) in
    record { away = saved_away c.args.guests.now.granularity c.args.t.0 (pool_of c.args.guests.now c.args.cores.now (g.P.Policy.seen c.args.policy.now)) c.in-Some.u c.args.r.0 there.0 c.requires.kept.pool there.1 there.2 }

use Rattle.std.proofs.Common.{arith}
use Rattle.pool_core.proofs.Queueing.{queued_all, queued_first, queued_next}
use Rattle.pool_core.proofs.domains.queue_units.Goals as goal

pub loop-n-init : goal.loop-n-init
loop-n-init g c = queued_first c.args.guests.now.granularity c.args.d.0 c.args.count c.args.guests.now c.args.cores.now (g.P.Policy.seen c.args.policy.now) c.requires.may

pub queue_if_off-requires : goal.queue_if_off-requires
queue_if_off-requires g c = record { may = c.loop-n.invariant.may c.loop-n.n (omega arith) c.loop-n-test.true }

pub loop-n-preserved : goal.loop-n-preserved
loop-n-preserved g c =
    queued_next c.args.guests.now.granularity c.args.d.0 c.loop-n.n c.args.count c.args.guests.now c.args.cores.now (g.P.Policy.seen c.args.policy.now) (g.P.Policy.seen c.loop-n.policy) (g.P.Policy.seen c.queue_if_off.new.policy)
    c.loop-n-test.true c.loop-n.invariant c.queue_if_off.ensures.pool c.queue_if_off.ensures.room

pub returns-clause-pool : goal.returns-clause-pool
returns-clause-pool g c =
    queued_all c.args.guests.now.granularity c.args.d.0 c.loop-n.n c.args.count c.args.guests.now c.args.cores.now (g.P.Policy.seen c.args.policy.now) (g.P.Policy.seen c.loop-n.policy) c.loop-n-test.false c.loop-n.invariant

pub returns-clause-room : goal.returns-clause-room
returns-clause-room g c = c.loop-n.invariant.room

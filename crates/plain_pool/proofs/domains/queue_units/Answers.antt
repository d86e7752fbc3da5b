use Rattle.std.proofs.Common.{arith}
use Rattle.plain_pool.proofs.QueueLemmas.{queue_units-room, queue_units-turn}
use Rattle.plain_pool.proofs.domains.queue_units.Goals as goal
use Rattle.sched_laws.proofs.Opened.{queue_if_off-resources}

pub queue_if_off-requires-clause-room : goal.queue_if_off-requires-clause-room
queue_if_off-requires-clause-room c =
    queue_units-room c.args.granularity c.args.d.0 c.loop-n.n c.args.count c.loop-n.pool c.args.pool.now (omega arith) c.loop-n.invariant.so_far c.requires.room

pub loop-n-preserved : goal.loop-n-preserved
loop-n-preserved c =
    record {
      so_far = rw c.queue_if_off.ensures (queue_units-turn c.args.granularity c.args.d.0 c.loop-n.n c.args.count c.loop-n.pool c.args.pool.now (omega arith) c.loop-n.invariant.so_far);
      cores = rw (c.queue_if_off.ensures, queue_if_off-resources) c.loop-n.invariant.cores;
    }

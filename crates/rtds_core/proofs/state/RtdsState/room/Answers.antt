use Rattle.std.proofs.Common.{replicate, None}
use Rattle.rtds_queue.specs.Lists.{empty_lists}
use Rattle.rtds_core.proofs.Calls.{kept_as}
use Rattle.rtds_core.proofs.Joining.{kept_none}
use Rattle.rtds_core.proofs.state.RtdsState.room.Goals as goal

pub invariant_of-result : goal.invariant_of-result
invariant_of-result c =
    kept_as (replicate c.args.places.domains None) c.in_ok-domains.domains (replicate c.args.places.domains None) c.in_ok-affinity.affinity (empty_lists c.args.units) c.in_ok-queues.queues c.in_ok-queues.masks (replicate 2048 None) c.in_ok-queues.alarms c.args.units c.args.latest
    c.in_ok-domains.ensures c.in_ok-affinity.ensures c.in_ok-queues.ensures.queues c.in_ok-queues.ensures.alarms
    (kept_none c.args.places.domains c.args.units c.args.latest c.in_ok-queues.masks c.requires.domains c.requires.units c.requires.early)

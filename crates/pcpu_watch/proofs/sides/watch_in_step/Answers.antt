use denote.Param.Send.{sendable}
use Rattle.std.proofs.Crossing.{crosses}
use Rattle.pcpu_watch.proofs.Crossing.{meeting_sync, reading_send}
use Rattle.pcpu_watch.proofs.sides.watch_in_step.Goals as goal

pub join_mut-written-requires-send-F : goal.join_mut-written-requires-send-F
join_mut-written-requires-send-F g c κs within = let r = c.type_bounds.sync-R in search (sendable, crosses, meeting_sync, reading_send) depth 60

use denote.Param.Send.{sendable}
use Rattle.std.proofs.Crossing.{crosses}
use Rattle.hall.proofs.Crossing.{hall_sync}
use Rattle.pcpu_threads.proofs.Crossing.{progress_sync}
use Rattle.pcpu_watch.proofs.Crossing.{reading_send, watcher_send, writer_end_send}
use Rattle.pcpu_watch.proofs.sides.run_and_watch.Goals as goal

pub join_mut-written-requires-send-F : goal.join_mut-written-requires-send-F
join_mut-written-requires-send-F g c κs within = let r = c.type_bounds.sync-R in search (sendable, crosses, hall_sync, progress_sync, reading_send, watcher_send, writer_end_send) depth 60

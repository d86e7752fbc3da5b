use denote.Param.Send.{sendable}
use Rattle.std.proofs.Crossing.{crosses}
use Rattle.hall.proofs.Crossing.{hall_sync, seat_send}
use Rattle.pcpu_threads.proofs.Crossing.{progress_sync}
use Rattle.pcpu_threads.proofs.heard.run_and_listen.Goals as goal

pub join_mut-read-requires-send-F : goal.join_mut-read-requires-send-F
join_mut-read-requires-send-F g c κs within = let r = c.type_bounds.sync-R in let q = c.type_bounds.sync-G in search (sendable, crosses, hall_sync, seat_send, progress_sync) depth 60

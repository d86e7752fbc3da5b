use denote.Param.Send.{sendable}
use Rattle.std.proofs.Crossing.{crosses}
use Rattle.hall.proofs.Crossing.{hall_sync}
use Rattle.pcpu_threads.proofs.Crossing.{progress_sync, pulse_sync}
use Rattle.pcpu_threads.proofs.crew.run_rows.Goals as goal

pub for_each_chunk_mut-requires-sync-F : goal.for_each_chunk_mut-requires-sync-F
for_each_chunk_mut-requires-sync-F g c κs within = let r = c.type_bounds.sync-R in let q = c.type_bounds.sync-G in search (sendable, crosses, hall_sync, progress_sync, pulse_sync) depth 60

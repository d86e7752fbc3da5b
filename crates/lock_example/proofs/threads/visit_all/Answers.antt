use denote.Param.Send.{sendable}
use Rattle.lock_moves.proofs.content.NameId.TheSendSync as name
use Rattle.lock_moves.proofs.Crossing.{set_sync}
use Rattle.lock_example.proofs.counter.Counter.TheSendSync as counter
use Rattle.lock_example.proofs.threads.visit_all.Goals as goal

pub for_each_mut-requires-sync-F : goal.for_each_mut-requires-sync-F
for_each_mut-requires-sync-F g c κs within = let r = c.type_bounds.sync-R in search (sendable, set_sync, counter.the_send, name.the_sync) depth 60

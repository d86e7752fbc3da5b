use denote.Param.Send.{sendable}
use Rattle.lock_moves.proofs.content.NameId.TheSendSync as name
use Rattle.lock_moves.proofs.seat.LockSeat.TheSendSync as seat
use Rattle.lock_moves.proofs.Crossing.{set_sync}
use Rattle.lock_example.proofs.counter.Counter.TheSendSync as counter
use Rattle.lock_example.proofs.threads.visit_both.Goals as goal

pub join_mut-requires-send-F : goal.join_mut-requires-send-F
join_mut-requires-send-F g c κs within = let r = c.type_bounds.sync-R in search (sendable, set_sync, counter.the_send, seat.the_send, name.the_sync) depth 40

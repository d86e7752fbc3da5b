use denote.Param.Send.{sendable}
use Rattle.std.proofs.Crossing.{crosses}
use Rattle.lock_moves.proofs.content.Held.TheSendSync as held
use Rattle.lock_moves.proofs.seat.LockSeat.TheSendSync as seat
use Rattle.lock_moves.proofs.Crossing.{set_sync}
use Rattle.lock_example.proofs.counter.Counter.TheSendSync as counter
use Rattle.lock_example.proofs.threads.add_beside_visit.Goals as goal

pub join-requires-send-F : goal.join-requires-send-F
join-requires-send-F g c κs within = let r = c.type_bounds.sync-R in search (sendable, crosses, set_sync, counter.the_send, held.the_send, seat.the_send) depth 60

-- Which types of this crate may cross threads.
use denote.Param.Send.{IsSend, IsSync, sendable, recorded_send, recorded_sync, struct_send, struct_sync, view_send, view_sync}
use denote.Struct.Declared.{shape}
use Rattle.std.proofs.Crossing.{crosses}
use Rattle.machine_parts.specs.contracts.slot.PoolSlot.{the_row as slot_row}
use Rattle.machine_parts.specs.contracts.spares.Spares.{the_row as spares_row}
use Rattle.hall.proofs.PoolCrossing.{pool_send, tool_send}
use Rattle.lock_moves.proofs.Crossing.{set_send, set_sync}
use Rattle.lock_moves.proofs.seat.LockSeat.TheSendSync as lock_seat
use Rattle.hall.specs.contracts.hall.Hall.{the_row as hall_row}
use Rattle.hall.specs.contracts.hall.Hall.TheInside as inside
use Rattle.hall.specs.contracts.seat.HallSeat.{the_row as seat_row}
use Rattle.hall.specs.contracts.value.ToolKept.{the_row as kept_row}
use Rattle.hall.specs.contracts.value.PartState.{the_row as part_row}
use Rattle.hall.specs.contracts.value.PartStatePart.TheImpl.{ghosts}

-- a place for a pool may go to another thread
slot_send : IsSend slot_row
slot_send = search (sendable, crosses, pool_send) depth 200 fits 100000

-- so may the spare pools
spares_send : IsSend spares_row
spares_send = search (sendable, crosses, pool_send) depth 200 fits 100000

-- and what the tool keeps
kept_send : IsSend kept_row
kept_send = search (sendable, crosses, tool_send, spares_send) depth 200 fits 100000

-- and what a lock guards
pub part_send : IsSend part_row
part_send = search (sendable, crosses, slot_send, kept_send) depth 200 fits 100000

-- a hall may go to another thread, and may be shared
pub hall_send : IsSend hall_row
hall_send = view_send _ _ _ _ _ (recorded_send inside.the_field.row _ _ inside.the_type.to_one
    (struct_send (shape inside.the_type) (set_send part_row ghosts part_send, (search sendable depth 20, (search sendable depth 20, tt)))))

pub hall_sync : IsSync hall_row
hall_sync = view_sync _ _ _ _ _ (recorded_sync inside.the_field.row _ _ inside.the_type.to_one
    (struct_sync (shape inside.the_type) (set_sync part_row ghosts part_send, (search sendable depth 20, (search sendable depth 20, tt)))))

-- a seat of a hall may go to another thread
pub seat_send : IsSend seat_row
seat_send = search (sendable, crosses, lock_seat.the_send) depth 60

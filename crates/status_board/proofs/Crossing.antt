-- Which types may cross threads.
use denote.Builtin.{Array}
use denote.Param.Send.{AllSend, IsSend, IsSync, recorded_send, sendable, struct_send, view_send}
use denote.Struct.Declared.{shape}
use Rattle.std.proofs.Crossing.{crosses, frees, send, sync}
use Rattle.left_right.proofs.reader.Reader.TheSendSync as seat
use Rattle.left_right.proofs.writer.Writer.TheSendSync as author
use Rattle.std.specs.contracts.alloc.Global.{the_row as heap_row}
use Rattle.std.specs.contracts.impls.GlobalAllocator.TheImpl as heap
use Rattle.sched_model.proofs.event.Entry.TheSendSync as entry
use Rattle.sched_model.specs.contracts.event.Entry.{the_row as entry_row}
use Rattle.sched_report.specs.contracts.past.Past.{the_row as past_row}
use Rattle.status_board.proofs.core_sums.CoreSums.TheSendSync as core
use Rattle.status_board.proofs.totals.CoreTotals.TheSendSync as core_totals
use Rattle.status_board.specs.contracts.reader.BoardReader.{the_row as reader_row}
use Rattle.status_board.specs.contracts.reader.Told.{the_row as told_row}
use Rattle.status_board.specs.contracts.rule.Shown.{the_row as shown_row}
use Rattle.status_board.specs.contracts.rule.ShownProtocolSumsPast.TheImpl as protocol
use Rattle.status_board.specs.contracts.sums.Sums.{the_row as sums_row}
use Rattle.status_board.specs.contracts.sums.SumsAbsorbEntry.TheImpl as absorb
use Rattle.status_board.specs.contracts.writer.BoardWriter.{the_row as writer_row}
use Rattle.status_board.specs.contracts.writer.BoardWriter.TheInside as inside

-- a reader may go to another thread, and so may what a writer tells it
pub reader_send : IsSend reader_row
reader_send = search (sendable, crosses, seat.the_send, core.the_sync, core_totals.the_send) depth 200 fits 100000

pub told_send : IsSend told_row
told_send = search (sendable, crosses, reader_send) depth 200 fits 100000

-- what the board keeps may
sums_send : IsSend sums_row
sums_send = search (sendable, crosses, core.the_send) depth 200 fits 100000

sums_sync : IsSync sums_row
sums_sync = search (sendable, crosses, core.the_sync) depth 200 fits 100000

-- and so may a writer
pub writer_send : IsSend writer_row
writer_send =
    let fields : AllSend (shape inside.the_type).fields = (author.the_field_send sums_row entry_row past_row shown_row heap_row (Array entry_row tt 0) absorb.ghosts protocol.ghosts heap.ghosts sums_send entry.the_send send sums_sync sync frees, (search sendable, tt)) in
    view_send _ _ _ _ _ (recorded_send inside.the_field.row _ _ inside.the_type.to_one (struct_send (shape inside.the_type) fields))

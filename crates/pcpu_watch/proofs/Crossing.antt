-- Which types may cross threads.
use denote.Param.Send.{IsSend, IsSync, sendable}
use Rattle.std.proofs.Crossing.{crosses}
use Rattle.hall.proofs.Crossing.{seat_send}
use Rattle.rtrb.proofs.end.End.TheSendSync as end
use Rattle.sched_model.proofs.event.Entry.TheSendSync as entry
use Rattle.status_board.proofs.Crossing.{reader_send, told_send, writer_send}
use Rattle.pcpu_watch.proofs.looks.Look.TheSendSync as look
use Rattle.pcpu_watch.specs.contracts.line.ReaderEnd.{the_row as reader_end_row}
use Rattle.pcpu_watch.specs.contracts.line.WriterEnd.{the_row as writer_end_row}
use Rattle.pcpu_watch.specs.contracts.meeting.Meeting.{the_row as meeting_row}
use Rattle.pcpu_watch.specs.contracts.reader.Reading.{the_row as reading_row}
use Rattle.pcpu_watch.specs.contracts.watch.Watcher.{the_row as watcher_row}

-- where the writer and the reader meet may be shared
pub meeting_sync : IsSync meeting_row
meeting_sync = search (sendable, crosses) depth 200 fits 100000

-- both ends of a line may go to another thread
pub writer_end_send : IsSend writer_end_row
writer_end_send = search (sendable, crosses, end.the_send, told_send, look.the_send) depth 200 fits 100000

pub reader_end_send : IsSend reader_end_row
reader_end_send = search (sendable, crosses, end.the_send, told_send, look.the_send) depth 200 fits 100000

-- a reader, and what watches a run
pub reading_send : IsSend reading_row
reading_send = search (sendable, crosses, reader_send, end.the_send, told_send, look.the_send) depth 200 fits 100000

pub watcher_send : IsSend watcher_row
watcher_send = search (sendable, crosses, seat_send, writer_send, entry.the_send, look.the_send) depth 200 fits 100000

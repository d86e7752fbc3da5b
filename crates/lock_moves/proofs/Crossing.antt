-- Which types of this crate may cross threads.
use denote.RattleType.{RattleType}
use denote.Param.Send.{IsSend, IsSync, sendable, recorded_send, recorded_sync, struct_send, struct_sync, view_send, view_sync}
use denote.Struct.Declared.{shape}
use Rattle.std.specs.contracts.alloc.Global.{the_row as heap_row}
use Rattle.std.specs.contracts.impls.GlobalAllocator.TheImpl as heap
use Rattle.std.specs.contracts.snapshot.Snapshot.{the_row as snapshot_row}
use Rattle.std.proofs.Crossing.{crosses, send, sync, frees}
use Rattle.atomic_table.proofs.owned.Table.TheSendSync as table
use Rattle.sched_model.proofs.event.Entry.TheSendSync as entry
use Rattle.journal_core.specs.contracts.Book.{the_row as book_row}
use Rattle.lock_moves.specs.declared.content.Part.{Ghosts}
use Rattle.lock_moves.specs.contracts.content.Content.{the_row as content_row}
use Rattle.lock_moves.specs.contracts.view.View.{the_row as view_row}
use Rattle.lock_moves.specs.contracts.rule.Agreement.{the_row as rule_row}
use Rattle.lock_moves.specs.contracts.rule.AgreementTableRuleContentViewSnapshotBook.TheImpl as rule
use Rattle.lock_moves.specs.contracts.set.LockSet.{the_row as set_row}
use Rattle.lock_moves.specs.contracts.set.LockSet.TheInside as inside

-- a book may go to another thread
pub book_send : IsSend book_row
book_send = search (sendable, crosses, entry.the_send) depth 120

-- what lies in a slot may, where the values may
pub content_send : (V : RattleType) → IsSend V → IsSend (content_row V)
content_send V s = search (sendable, crosses, book_send) depth 60

inside_send : (V : RattleType) (g : Ghosts V.Denot) → IsSend V → IsSend (inside.the_row V g)
inside_send V g s =
    let owned = table.the_field_send (content_row V) view_row (snapshot_row book_row) rule_row heap_row (rule.ghosts V g rule.no_dict rule.no_dict) heap.ghosts (content_send V s) send frees in
    recorded_send (inside.the_field V g).row _ _ (inside.the_type V g).to_one (struct_send (shape (inside.the_type V g)) (owned, tt))

inside_sync : (V : RattleType) (g : Ghosts V.Denot) → IsSend V → IsSync (inside.the_row V g)
inside_sync V g s =
    let shared = table.the_field_sync (content_row V) view_row (snapshot_row book_row) rule_row heap_row (rule.ghosts V g rule.no_dict rule.no_dict) heap.ghosts (content_send V s) send sync frees in
    recorded_sync (inside.the_field V g).row _ _ (inside.the_type V g).to_one (struct_sync (shape (inside.the_type V g)) (shared, tt))

-- a set may go to another thread and may be shared, where its values may go to another thread
pub set_send : (V : RattleType) (g : Ghosts V.Denot) → IsSend V → IsSend (set_row V g)
set_send V g s = view_send _ _ _ _ _ (inside_send V g s)

pub set_sync : (V : RattleType) (g : Ghosts V.Denot) → IsSend V → IsSync (set_row V g)
set_sync V g s = view_sync _ _ _ _ _ (inside_sync V g s)

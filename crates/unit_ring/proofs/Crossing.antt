-- Which types of this crate may go to another thread.
use mathlib.Core.Bool.{Bool, true, false}
use mathlib.Core.List.{List, [], ◌∷◌}
use mir.Syntax.{Ty}
use base.Fml.{Fml}
use base.Fraction.{full_share}
use base.Shift.{Keyless}
use denote.Builtin.{RawPtr, usize}
use denote.Exit.{Exit, unchanged, leaves, hidden, under}
use denote.Param.Send.{IsSend, AllSend, Quiet, sendable, part_keyless, owning_send, struct_send, recorded_send, view_send}
use denote.RattleType.{RattleType}
use denote.RawPtr.{Ptr, block_ptr, null_ptr, lies_at, room_for, in_block, ◌+ₚ◌}
use denote.Struct.Declared as declared
use denote.Struct.Owning.{shape, fields, to}
use denote.Struct.Struct.{exits_of}
use Rattle.core.specs.Mem.Slots.Ownership.{bytes_of, slot, slots}
use Rattle.core.specs.contracts.slots.Lease as Lease
use Rattle.core.specs.contracts.slots.Slots as Slots
use Rattle.std.specs.contracts.alloc.Global.{the_row as heap_row}
use Rattle.std.specs.contracts.impls.GlobalAllocator.TheImpl as heap
use Rattle.std.proofs.Crossing.{frees}
use Rattle.unit_ring.specs.contracts.Ring.{the_row as ring_row}
use Rattle.unit_ring.specs.contracts.Ring.TheInside as ring
use Rattle.unit_ring.specs.contracts.links.Nodes.{the_row as nodes_row}
use Rattle.unit_ring.specs.contracts.links.Nodes.TheInside as nodes
use Rattle.unit_ring.specs.contracts.nodes.NodeRecord.{the_row as node_row}
use Rattle.unit_ring.proofs.nodes.Address.TheSendSync as address
use Rattle.unit_ring.proofs.nodes.NodeRecord.TheSendSync as node

quiet : {D X : Type 0} (to : D → X) (e : Exit X) → Quiet e → Quiet (hidden (under to e))
quiet to unchanged q = λ x w. tt
quiet to (leaves L l S s r₀) q = λ d. q (to d)

lies : (R : RattleType) → IsSend R → (p : Ptr) (x : R.Denot) → Keyless (lies_at R full_share p x)
lies R s (block_ptr b o) x = part_keyless R s full_share x b o
lies R s null_ptr x = tt

room : (τ : Ty) (p : Ptr) → Keyless (room_for τ p)
room τ (block_ptr b o) = tt
room τ null_ptr = tt

inside : (p : Ptr) (F : Fml) → Keyless F → Keyless (in_block p F)
inside (block_ptr b o) F k = k
inside null_ptr F k = tt

-- what a place of a row owns names no thread
slot-keyless : (R : RattleType) → IsSend R → (f : Bool) (p : Ptr) (x : R.Denot) → Keyless (slot R f p x)
slot-keyless R s true p x = lies R s p x
slot-keyless R s false p x = room _ p

slots-keyless : (R : RattleType) → IsSend R → (p : Ptr) (xs : List R.Denot) (fs : List Bool) → Keyless (slots R p xs fs)
slots-keyless R s p [] fs = tt
slots-keyless R s p (x ∷ xs) [] = tt
slots-keyless R s p (x ∷ xs) (f ∷ fs) = (slot-keyless R s f p x, slots-keyless R s (p +ₚ bytes_of R) xs fs)

ps : IsSend RawPtr
ps = search sendable

ns : IsSend usize
ns = search sendable

row_send : IsSend (Slots.the_row node_row)
row_send = let O = Slots.the_type node_row in let all : AllSend (fields O) = (ps, (ns, tt)) in owning_send O all
    (λ d. (tt, inside d.ptr _ (slots-keyless node_row node.the_send d.ptr d.items d.filled)))
    (λ k. quiet (to O) (exits_of k (fields O)) ((struct_send (shape O) all).leaving k))

lease_send : IsSend (Lease.the_row node_row heap_row heap.ghosts)
lease_send = let O = Lease.the_type node_row heap_row heap.ghosts in let all : AllSend (fields O) = (ps, (ns, (search sendable, tt))) in owning_send O all
    (λ d. frees.frees d.alloc _ d.ptr)
    (λ k. quiet (to O) (exits_of k (fields O)) ((struct_send (shape O) all).leaving k))

nodes_inside : IsSend nodes.the_row
nodes_inside = recorded_send nodes.the_field.row _ _ nodes.the_type.to_one (struct_send (declared.shape nodes.the_type) (row_send, (address.the_field_send, (lease_send, (search sendable depth 20, tt)))))

pub nodes_send : IsSend nodes_row
nodes_send = view_send _ _ _ _ _ nodes_inside

ring_inside : IsSend ring.the_row
ring_inside = recorded_send ring.the_field.row _ _ ring.the_type.to_one (struct_send (declared.shape ring.the_type) (nodes_send, tt))

-- a ring may go to another thread
pub ring_send : IsSend ring_row
ring_send = view_send _ _ _ _ _ ring_inside

use Rattle.due_heap.proofs.IdSets.{union_has}
use Rattle.due_heap.proofs.bits.union.Goals as goal

pub returns : goal.returns
returns c = union_has c.args.a c.args.b

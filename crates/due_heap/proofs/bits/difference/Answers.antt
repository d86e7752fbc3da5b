use Rattle.std.proofs.Common.{arith}
use Rattle.due_heap.proofs.IdSets.{difference_has}
use Rattle.due_heap.proofs.bits.difference.Goals as goal

pub returns : goal.returns
returns c = λ id few. difference_has c.args.a c.args.b id (omega arith) few

use Rattle.std.proofs.Common.{arith}
use Rattle.due_heap.proofs.IdSets.{cleared, less}
use Rattle.due_heap.proofs.bits.without.Goals as goal

pub returns-clause-change : goal.returns-clause-change
returns-clause-change c = cleared c.args.set c.args.id (omega arith) c.requires.few

pub returns-clause-less : goal.returns-clause-less
returns-clause-less c = less c.args.set c.args.id _ c.requires.has (cleared c.args.set c.args.id (omega arith) c.requires.few)

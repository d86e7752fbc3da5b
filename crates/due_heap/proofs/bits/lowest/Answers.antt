use Rattle.std.proofs.Common.{arith}
use Rattle.due_heap.proofs.IdSets.{lowest_is}
use Rattle.due_heap.proofs.bits.lowest.Goals as goal

pub returns-else-set-eq0-clause-lowest : goal.returns-else-set-eq0-clause-lowest
returns-else-set-eq0-clause-lowest c = lowest_is c.args.set (omega arith) (omega arith)

use Rattle.due_heap.proofs.Told.{all_told}
use Rattle.due_heap.proofs.set.first_armed.Goals as goal

pub returns : goal.returns
returns c = all_told c.args.moments.now c.args.words.now c.union.result c.first_of.result c.requires c.union.ensures c.first_of.ensures

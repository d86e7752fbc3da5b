use Rattle.std.proofs.Common.{arith}
use Rattle.due_heap.proofs.IdSets.{put_wanted, put_unwanted}
use Rattle.due_heap.proofs.bits.put_id.Goals as goal

pub returns-then-wanted : goal.returns-then-wanted
returns-then-wanted c = put_wanted c.args.set c.args.id c.args.wanted c.requires c.if-wanted.true

pub returns-else-wanted : goal.returns-else-wanted
returns-else-wanted c = put_unwanted c.args.set c.args.id c.args.wanted (omega arith) c.requires c.if-wanted.false

use Rattle.std.proofs.Common.{◌*◌, ◌-◌, length}
use Rattle.due_heap.specs.Winners.{IsTree}
use Rattle.due_heap.proofs.Descent.{IsOnWay}
use Rattle.due_heap.proofs.leftmost.Given as goal

abbrev pub invariant-loop-k : goal.invariant-loop-k
invariant-loop-k l = (tree : IsTree l.moments l.winners) × IsOnWay l.t.0 l.moments l.winners tree l.k

abbrev pub decreases-loop-k : goal.decreases-loop-k
decreases-loop-k l = 2 * length l.winners - l.k

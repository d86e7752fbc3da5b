use Rattle.std.proofs.Common.{◌≤◌, length}
use Rattle.due_heap.proofs.Tree.{IsRightFrom}
use Rattle.due_heap.proofs.play_all.Given as goal

abbrev pub invariant-loop-k : goal.invariant-loop-k
invariant-loop-k l = record {
  inside : l.k ≤ length l.moments;
  right : IsRightFrom l.k l.moments l.winners;
}

abbrev pub decreases-loop-k : goal.decreases-loop-k
decreases-loop-k l = l.k

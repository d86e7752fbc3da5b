use Rattle.std.proofs.Common.{◌≡◌, ◌*◌, ◌/◌, ◌≤◌, ◌<◌, List, Option, length}
use Rattle.sched_base.specs.declared.Moment.{Moment}
use Rattle.due_heap.specs.Winners.{node_winner}
use Rattle.due_heap.proofs.Rise.{IsRising}
use Rattle.due_heap.proofs.settle.Given as goal

abbrev pub invariant-loop-k : goal.invariant-loop-k
invariant-loop-k l = (before : List (Option Moment)) × IsRising l.id l.moments before l.winners (l.k / 2) × (l.first ≡ node_winner l.winners l.k) × (1 ≤ l.k) × (l.k < 2 * length l.winners)

abbrev pub decreases-loop-k : goal.decreases-loop-k
decreases-loop-k l = l.k

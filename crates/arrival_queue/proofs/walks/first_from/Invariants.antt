use Rattle.std.proofs.Common.{◌-◌, ◌≤◌, length}
use Rattle.arrival_queue.specs.Filters.{has_core_bit}
use Rattle.arrival_queue.proofs.Behind.{IsWalk}
use Rattle.arrival_queue.proofs.walks.first_from.Given as goal

abbrev pub invariant-loop-at : goal.invariant-loop-at
invariant-loop-at g l = record {
  later : l.initial.steps ≤ l.steps;
  walk : IsWalk (λ u. has_core_bit l.allowed.0 u.dom.0) l.ring.first l.fn.from l.at (l.steps - l.initial.steps);
}

abbrev pub decreases-loop-at : goal.decreases-loop-at
decreases-loop-at g l = length l.ring.first - (l.steps - l.initial.steps)

use Rattle.std.proofs.Common.{◌≡◌, ◌-◌, ◌≤◌, length, drop}
use Rattle.unit_ring.specs.Lists.{first_in}
use Rattle.arrival_queue.specs.Filters.{has_core_bit}
use Rattle.arrival_queue.specs.Tables.{first_unit}
use Rattle.arrival_queue.proofs.walks.first_where.Given as goal

abbrev pub invariant-loop-at : goal.invariant-loop-at
invariant-loop-at g l = record {
  later : l.initial.steps ≤ l.steps;
  within : l.steps - l.initial.steps ≤ length l.ring.first;
  stands : l.at ≡ first_in (drop (l.steps - l.initial.steps) l.ring.first);
  passed : first_unit (λ u. has_core_bit l.allowed.0 u.dom.0) (drop (l.steps - l.initial.steps) l.ring.first) ≡ first_unit (λ u. has_core_bit l.allowed.0 u.dom.0) l.ring.first;
}

abbrev pub decreases-loop-at : goal.decreases-loop-at
decreases-loop-at g l = length l.ring.first - (l.steps - l.initial.steps)

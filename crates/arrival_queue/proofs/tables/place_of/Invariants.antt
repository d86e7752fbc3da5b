use Rattle.std.proofs.Common.{◌-◌, ◌≤◌, length}
use Rattle.arrival_queue.specs.Tables.{comes_before}
use Rattle.arrival_queue.proofs.Back.{Stands}
use Rattle.arrival_queue.proofs.tables.place_of.Given as goal

abbrev pub invariant-loop-at : goal.invariant-loop-at
invariant-loop-at g l = record {
  later : l.initial.steps ≤ l.steps;
  stands : Stands (comes_before l.tables.keys.items l.tables.arrivals.items l.key l.arrival) l.tables.ring.first (l.steps - l.initial.steps) l.at l.place;
}

abbrev pub decreases-loop-at : goal.decreases-loop-at
decreases-loop-at g l = length l.tables.ring.first - (l.steps - l.initial.steps)

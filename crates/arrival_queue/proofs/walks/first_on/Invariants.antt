use Rattle.std.proofs.Common.{◌≡◌, ◌-◌, ◌≤◌, length, drop}
use Rattle.std.specs.Prelude.{◌&&◌}
use Rattle.unit_ring.specs.Lists.{first_in}
use Rattle.arrival_queue.specs.Filters.{in_domains, may_run}
use Rattle.arrival_queue.specs.Tables.{first_unit}
use Rattle.arrival_queue.proofs.walks.first_on.Given as goal

abbrev pub invariant-loop-at : goal.invariant-loop-at
invariant-loop-at g l = record {
  later : l.initial.steps ≤ l.steps;
  within : l.steps - l.initial.steps ≤ length l.ring.first;
  stands : l.at ≡ first_in (drop (l.steps - l.initial.steps) l.ring.first);
  passed : first_unit (λ u. in_domains l.domains u && may_run l.masks l.core l.home u) (drop (l.steps - l.initial.steps) l.ring.first) ≡ first_unit (λ u. in_domains l.domains u && may_run l.masks l.core l.home u) l.ring.first;
}

abbrev pub decreases-loop-at : goal.decreases-loop-at
decreases-loop-at g l = length l.ring.first - (l.steps - l.initial.steps)

use Rattle.std.proofs.Common.{◌≤◌, length}
use Rattle.machine_parts.proofs.Ranking.{IsLeastFrom}
use Rattle.machine_parts.proofs.order.earliest_by_rank.Given as goal

-- of those from the place on the earliest was found
abbrev pub invariant-loop-i : goal.invariant-loop-i
invariant-loop-i l = record { inside : l.i ≤ length l.firsts; found : IsLeastFrom l.i l.firsts l.least l.found }

abbrev pub decreases-loop-i : goal.decreases-loop-i
decreases-loop-i l = l.i

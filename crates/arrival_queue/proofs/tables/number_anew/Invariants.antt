use Rattle.std.proofs.Common.{◌≡◌, ℕ, ◌<◌, get_or}
use Rattle.arrival_queue.specs.Tables.{count_below}
use Rattle.arrival_queue.proofs.tables.number_anew.Given as goal

abbrev pub invariant-loop-i : goal.invariant-loop-i
invariant-loop-i l = (k : ℕ) → k < l.i → get_or l.fresh k 0 ≡ count_below l.numbers (get_or l.numbers k 0)

use Rattle.std.proofs.Common.{◌≡◌, length, map, take}
use Rattle.status_board.specs.Sums.{totals_in}
use Rattle.status_board.proofs.sums.core_totals.Given as goal

abbrev pub invariant-loop-core : goal.invariant-loop-core
invariant-loop-core l = record {
  so_far : l.all.items ≡ map (totals_in l.last.0) (take l.core-index l.cores);
  count : length l.all.items ≡ l.core-index;
}

use Rattle.std.proofs.Common.{◌≡◌, ◌++◌, ◌+◌, length, replicate}
use Rattle.std.specs.Prelude.{vec_capacity}
use Rattle.status_board.specs.Boards.{nothing_seen}
use Rattle.status_board.proofs.opening.seat_readers.Given as goal

abbrev pub invariant-loop : goal.invariant-loop
invariant-loop l = record {
  so_far : l.all.items ≡ l.initial.all.items ++ replicate l.counter (nothing_seen l.cores);
  count : length l.all.items ≡ length l.initial.all.items + l.counter;
  room : vec_capacity l.all ≡ vec_capacity l.initial.all;
}

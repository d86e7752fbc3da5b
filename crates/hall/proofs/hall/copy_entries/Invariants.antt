use Rattle.std.proofs.Common.{◌≡◌, ◌+◌, drop, length, take}
use Rattle.std.specs.Prelude.{vec_capacity}
use Rattle.hall.proofs.hall.copy_entries.Given as goal

abbrev pub invariant-loop-place : goal.invariant-loop-place
invariant-loop-place l = record {
  count : l.place ≡ l.from + length l.into.items;
  items : l.into.items ≡ take (length l.into.items) (drop l.from l.book.history);
  room : vec_capacity l.into ≡ vec_capacity l.fn.into;
}

use Rattle.std.proofs.Common.{◌≡◌, take}
use Rattle.pcpu_watch.specs.Looks.{LooksSoFar}
use Rattle.pcpu_watch.proofs.rest.look_at_rest.Given as goal

abbrev pub invariant-loop-place : goal.invariant-loop-place
invariant-loop-place l = record {
  so_far : LooksSoFar (take l.place l.book.history) l.looks.items;
  room : l.looks.room ≡ l.fn.looks.room;
}

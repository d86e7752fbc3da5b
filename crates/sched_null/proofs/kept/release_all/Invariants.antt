use Rattle.std.proofs.Common.{◌≡◌, take, length}
use Rattle.std.specs.Prelude.{replicate, None}
use Rattle.sched_null.proofs.kept.release_all.Given as goal

abbrev pub invariant-loop-r : goal.invariant-loop-r
invariant-loop-r l =
    record {
      so_far : take l.r l.kept ≡ replicate l.r None;
      as_long : length l.kept ≡ length l.initial.kept;
    }

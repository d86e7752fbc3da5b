use Rattle.std.proofs.Common.{◌≡◌, List, ℕ, Option, ◌++◌, length}
use Rattle.std.specs.Io.KnownBytes.{Appends}
use Rattle.sched_io.proofs.out_sink.write_whole.Given as goal

-- some front of the piece was written, and the rest is left
pub record SoFar (before now : Option (List ℕ)) (piece rest : List ℕ) : Type 0 where
  pub done : List ℕ
  pub whole : done ++ rest ≡ piece
  pub written : Appends before now done

abbrev pub invariant-loop-rest : goal.invariant-loop-rest
invariant-loop-rest g l = SoFar (g.W.Write.contents l.fn.writer) (g.W.Write.contents l.writer) l.piece l.rest

abbrev pub decreases-loop-rest : goal.decreases-loop-rest
decreases-loop-rest g l = length l.rest

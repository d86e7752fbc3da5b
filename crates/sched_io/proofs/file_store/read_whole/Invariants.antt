use Rattle.std.proofs.Common.{◌≤◌, length}
use Rattle.std.specs.Io.KnownBytes.{Consumes}
use Rattle.sched_io.specs.HeldBytes.{most_bytes}
use Rattle.sched_io.proofs.file_store.read_whole.Given as goal

-- the bytes so far are what the file gave
pub record SoFar (P Q : Type 0) : Type 0 where
  pub within : P
  pub read : Q

abbrev pub invariant-loop : goal.invariant-loop
invariant-loop g l =
    SoFar (length l.bytes.items ≤ most_bytes) (Consumes (g.F.Read.remaining l.fn.file) (g.F.Read.remaining l.file) l.bytes.items)

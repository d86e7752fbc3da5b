use Rattle.std.proofs.Common.{◌≡◌}
use Rattle.std.specs.Prelude.{◌++◌, replicate, None}
use Rattle.cpupool.proofs.opening.with_spare_pools.Given as goal

abbrev pub invariant-loop-i : goal.invariant-loop-i
invariant-loop-i l = l.all ≡ l.initial.all ++ replicate l.i None

use Rattle.std.proofs.Common.{◌≡◌, drop}
use Rattle.dom_file.specs.Cores.{is_core_taken}
use Rattle.dom_file.proofs.cores.is_taken.Given as goal

abbrev pub invariant-loop-pool : goal.invariant-loop-pool
invariant-loop-pool l = is_core_taken l.pools l.core ≡ is_core_taken (drop l.pool-index l.pools) l.core

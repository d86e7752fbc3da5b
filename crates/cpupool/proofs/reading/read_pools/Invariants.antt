use Rattle.std.proofs.Common.{◌≡◌, take}
use Rattle.std.specs.Prelude.{map, option_map}
use Rattle.journal_core.specs.Parts.{pool_outline}
use Rattle.cpupool.proofs.reading.read_pools.Given as goal

abbrev pub invariant-loop-pool : goal.invariant-loop-pool
invariant-loop-pool l = l.outlines ≡ map (option_map pool_outline) (take l.pool-index l.pools)

use Rattle.std.proofs.Common.{◌≡◌, drop}
use Rattle.dom_file.specs.Pools.{is_named}
use Rattle.dom_file.proofs.pool.has_name.Given as goal

abbrev pub invariant-loop-pool : goal.invariant-loop-pool
invariant-loop-pool l = is_named l.pools l.name ≡ is_named (drop l.pool-index l.pools) l.name

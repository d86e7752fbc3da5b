use Rattle.std.proofs.Common.{◌≡◌, take}
use Rattle.std.specs.Prelude.{Some, map}
use Rattle.sched_model.specs.declared.config.PoolConfig.{PoolConfig}
use Rattle.plain_opening.proofs.opening.names_of.Given as goal

abbrev pub invariant-loop-pool : goal.invariant-loop-pool
invariant-loop-pool l = l.names.items ≡ map (λ (pool : PoolConfig). Some pool.name) (take l.pool-index l.pools)

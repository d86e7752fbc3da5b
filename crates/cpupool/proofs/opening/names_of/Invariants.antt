use Rattle.std.proofs.Common.{◌≡◌, take}
use Rattle.std.specs.Prelude.{map, Some}
use Rattle.sched_model.specs.declared.config.PoolConfig.{PoolConfig}
use Rattle.cpupool.proofs.opening.names_of.Given as goal

abbrev pub invariant-loop-pool : goal.invariant-loop-pool
invariant-loop-pool l = l.names ≡ map (λ (pool : PoolConfig). Some pool.name) (take l.pool-index l.pools)

-- Outlines of pools, counted.
use Rattle.std.proofs.Common.{◌≡◌, ℕ, suc, List, [], ◌∷◌, length, refl, ap}
use Rattle.sched_model.specs.declared.config.DomConfig.{DomConfig}
use Rattle.sched_model.specs.declared.config.PoolConfig.{PoolConfig}
use Rattle.cpupool.specs.OpeningPools.{outlines_at_opening}

-- as many as pools
pub length_outlines : (cores : ℕ) (domains : List DomConfig) (i : ℕ) (pools : List PoolConfig) → length (outlines_at_opening cores domains i pools) ≡ length pools
length_outlines cores domains i [] = refl
length_outlines cores domains i (pool ∷ pools) = ap suc (length_outlines cores domains (suc i) pools)

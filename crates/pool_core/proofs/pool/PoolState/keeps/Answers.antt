use Rattle.std.proofs.Common.{subst}
use Rattle.policy_laws.specs.Holds.{Holds}
use Rattle.pool_core.specs.Seen.{Seen}
use Rattle.pool_core.proofs.pool.PoolState.keeps.Goals as goal

pub returns : goal.returns
returns g c = subst (λ (x : Seen). Holds x.granularity x.latest x.pool) c.self.view_is c.self.invariant.kept.pool

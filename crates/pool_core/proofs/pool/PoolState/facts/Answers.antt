use Rattle.pool_core.specs.Seen.{pool_of}
use Rattle.pool_core.proofs.Withdrawing.{units_known}
use Rattle.pool_core.proofs.pool.PoolState.facts.Goals as goal

pub facts-requires : goal.facts-requires
facts-requires g c = record { known = λ d is. units_known c.self.inside.guests.granularity d.0 (pool_of c.self.inside.guests c.self.inside.cores (c.self.inside.policy)) c.self.invariant.kept.pool.members }

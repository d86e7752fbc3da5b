use Rattle.std.proofs.Common.{subst}
use Rattle.machine_parts.specs.Rooms.{IsPlaced}
use Rattle.machine_parts.proofs.Rooming.{same-value}
use Rattle.machine_parts.proofs.slot.PoolSlot.keeps.Goals as goal

pub returns-in-Some-clause-placed : goal.returns-in-Some-clause-placed
returns-in-Some-clause-placed c x at = subst IsPlaced (same-value _ _ _ c.self.view_is c.in-Some.pool c.in-Some.is x at) (c.self.invariant c.in-Some.pool c.in-Some.is)

use Rattle.pool_units.proofs.Whole.{units_of}
use Rattle.pool_units.proofs.Marking.{marked_pinned}
use Rattle.pool_units.proofs.PoolUnits.pin.Goals as goal

pub invariant_of-self : goal.invariant_of-self
invariant_of-self c = rw c.pin.ensures (marked_pinned c.args.d.0 c.args.unit c.args.cores c.self.inside.marks (units_of c.self.inside.queue c.self.inside.affinity c.self.inside.spare) c.self.invariant)

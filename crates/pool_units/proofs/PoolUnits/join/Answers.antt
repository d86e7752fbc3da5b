use Rattle.pool_units.proofs.Whole.{units_of}
use Rattle.pool_units.proofs.Marking.{marked_joined}
use Rattle.pool_units.proofs.PoolUnits.join.Goals as goal

pub invariant_of-self : goal.invariant_of-self
invariant_of-self c =
    let r = rw (← c.self.view_is) at c.requires in
    rw (c.set_place.ensures, c.copies-sets.ensures) (marked_joined c.args.d.0 c.args.units c.self.inside.marks (units_of c.self.inside.queue c.self.inside.affinity c.self.inside.spare) r.absent r.few r.room c.self.invariant)

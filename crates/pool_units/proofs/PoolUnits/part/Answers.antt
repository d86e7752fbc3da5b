use Rattle.std.proofs.Common.{arith}
use Rattle.pool_units.proofs.Whole.{units_of, whole_parted}
use Rattle.pool_units.proofs.Marking.{marked_parted}
use Rattle.pool_units.proofs.PoolUnits.part.Goals as goal

pub invariant_of-self : goal.invariant_of-self
invariant_of-self c =
    let r = rw (← c.self.view_is) at c.requires in
    let n = rw (← c.self.view_is) at c.count-units.ensures in
    rw (c.set_place.ensures, n) (marked_parted c.args.d.0 c.self.inside.marks (units_of c.self.inside.queue c.self.inside.affinity c.self.inside.spare) r c.self.invariant)

pub overflow_add-self : goal.overflow_add-self
overflow_add-self c =
    let r = rw (← c.self.view_is) at c.requires in
    let n = rw (← c.self.view_is) at c.count-units.ensures in
    let most = (whole_parted c.args.d.0 (units_of c.self.inside.queue c.self.inside.affinity c.self.inside.spare) r c.self.invariant.whole).room in
    omega (arith, n, most)

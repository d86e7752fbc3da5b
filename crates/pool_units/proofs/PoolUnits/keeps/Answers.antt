use Rattle.pool_units.proofs.Marking.{member_place}
use Rattle.pool_units.proofs.Whole.{units_of}
use Rattle.pool_units.proofs.PoolUnits.keeps.Goals as goal

pub returns-clause-places : goal.returns-clause-places
returns-clause-places c u member =
    let m = rw (← c.self.view_is) at member in
    member_place u c.self.inside.marks (units_of c.self.inside.queue c.self.inside.affinity c.self.inside.spare) m c.self.invariant

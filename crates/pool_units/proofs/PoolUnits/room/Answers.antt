use Rattle.pool_units.proofs.Marking.{marked_vacant}
use Rattle.pool_units.proofs.PoolUnits.room.Goals as goal

pub invariant_of-result : goal.invariant_of-result
invariant_of-result c = rw (c.new.ensures, c.in_ok-affinity.ensures, c.in_ok-room.ensures) (marked_vacant c.args.domains c.args.units c.requires.domains c.requires.units)

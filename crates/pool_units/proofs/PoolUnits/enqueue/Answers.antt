use Rattle.std.proofs.Common.{arith}
use Rattle.pool_units.proofs.Whole.{units_of, room_to_wait}
use Rattle.pool_units.proofs.Marking.{marked_enqueued, member_place}
use Rattle.pool_units.proofs.PoolUnits.enqueue.Goals as goal

pub set-requires : goal.set-requires
set-requires c =
    let r = rw (← c.self.view_is) at c.requires in
    member_place c.args.u c.self.inside.marks (units_of c.self.inside.queue c.self.inside.affinity c.self.inside.spare) r.member c.self.invariant

pub invariant_of-self : goal.invariant_of-self
invariant_of-self c =
    let r = rw (← c.self.view_is) at c.requires in
    rw (c.push.ensures, c.set.ensures) (marked_enqueued c.args.u c.self.inside.marks (units_of c.self.inside.queue c.self.inside.affinity c.self.inside.spare) r.member r.waits_not c.self.invariant)

pub push-requires : goal.push-requires
push-requires c =
    let r = rw (← c.self.view_is) at c.requires in
    (omega arith, room_to_wait c.args.u (units_of c.self.inside.queue c.self.inside.affinity c.self.inside.spare) r.member r.waits_not c.self.invariant.whole)

use Rattle.std.proofs.Common.{sym, subst}
use Rattle.sched_model.specs.Commands.{pool_with_rtds}
use Rattle.sched_model.specs.Places.{numbers_from}
use Rattle.sched_model.specs.Pool.{settled_pool}
use Rattle.pool_core.specs.Seen.{Seen}
use Rattle.machine_parts.specs.Rooms.{IsPlaced}
use Rattle.machine_parts.proofs.Rooming.{placed-same, some-out, units-rtds}
use Rattle.machine_parts.proofs.slot.PoolSlot.set_units.Goals as goal

pub invariant_of-self-2 : goal.invariant_of-self-2
invariant_of-self-2 c x is =
    let d : Seen = c.deref_mut.result.now in
    let given = c.args.given in
    let ns = numbers_from c.args.first c.args.count in
    let placed : IsPlaced d = subst IsPlaced (sym c.deref_mut.ensures.value) (c.self.invariant c.in-Some.pool c.in-Some.is) in
    some-out (λ b. IsPlaced b.value) _ x is
    (subst IsPlaced (sym c.set_units.ensures)
    (placed-same d c.args.t.0 (settled_pool c.args.t.0 (pool_with_rtds c.args.t.0 c.args.d.0 given.period given.budget given.extra ns d.pool)) (units-rtds d.granularity c.args.t.0 c.args.d.0 given.period given.budget given.extra ns d.pool) placed))

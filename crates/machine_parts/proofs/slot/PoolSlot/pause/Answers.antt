use Rattle.std.proofs.Common.{sym, subst}
use Rattle.sched_model.specs.Pool.{paused_pool, settled_pool}
use Rattle.pool_core.specs.Seen.{Seen}
use Rattle.machine_parts.specs.Rooms.{IsPlaced}
use Rattle.machine_parts.proofs.Rooming.{placed-same, some-out, units-paused}
use Rattle.machine_parts.proofs.slot.PoolSlot.pause.Goals as goal

pub invariant_of-self-2 : goal.invariant_of-self-2
invariant_of-self-2 c x is =
    let d : Seen = c.deref_mut.result.now in
    let placed : IsPlaced d = subst IsPlaced (sym c.deref_mut.ensures.value) (c.self.invariant c.in-Some.pool c.in-Some.is) in
    some-out (λ b. IsPlaced b.value) _ x is (subst IsPlaced (sym c.pause.ensures) (placed-same d c.args.t.0 (settled_pool c.args.t.0 (paused_pool c.args.d.0 d.pool)) (units-paused d.granularity c.args.d.0 d.pool) placed))

use Rattle.std.proofs.Common.{refl, sym, subst}
use Rattle.sched_model.specs.Pool.{pool_with_leaving}
use Rattle.pool_core.specs.Seen.{Seen}
use Rattle.machine_parts.specs.Rooms.{IsPlaced}
use Rattle.machine_parts.proofs.Rooming.{placed-still, some-out}
use Rattle.machine_parts.proofs.slot.PoolSlot.set_leaving.Goals as goal

pub invariant_of-self-2 : goal.invariant_of-self-2
invariant_of-self-2 c x is =
    let d : Seen = c.deref_mut.result.now in
    let placed : IsPlaced d = subst IsPlaced (sym c.deref_mut.ensures.value) (c.self.invariant c.in-Some.pool c.in-Some.is) in
    some-out (λ b. IsPlaced b.value) _ x is (subst IsPlaced (sym c.set_leaving.ensures) (placed-still d (pool_with_leaving c.args.r.0 d.pool) refl placed))

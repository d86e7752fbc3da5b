use Rattle.std.proofs.Common.{refl, sym, subst}
use Rattle.sched_model.specs.Pool.{settled_pool}
use Rattle.pool_core.specs.Seen.{Seen, with_core}
use Rattle.machine_parts.specs.Rooms.{IsPlaced}
use Rattle.machine_parts.proofs.Rooming.{placed-same, some-out}
use Rattle.machine_parts.proofs.slot.PoolSlot.attach.Goals as goal

pub attach-requires-clause-used : goal.attach-requires-clause-used
attach-requires-clause-used c = (subst IsPlaced (sym c.deref_mut.ensures.value) (c.self.invariant c.in-Some.pool c.in-Some.is)).used

pub invariant_of-self-2 : goal.invariant_of-self-2
invariant_of-self-2 c x is =
    let d : Seen = c.deref_mut.result.now in
    let placed : IsPlaced d = subst IsPlaced (sym c.deref_mut.ensures.value) (c.self.invariant c.in-Some.pool c.in-Some.is) in
    some-out (λ b. IsPlaced b.value) _ x is (subst IsPlaced (sym c.attach.ensures) (placed-same d c.args.t.0 (settled_pool c.args.t.0 (with_core c.args.core.now.r.0 c.args.core.now.stall_ends d.pool)) refl placed))

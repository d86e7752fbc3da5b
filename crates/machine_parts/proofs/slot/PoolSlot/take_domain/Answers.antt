use Rattle.std.proofs.Common.{sym, subst}
use Rattle.pool_core.specs.Seen.{Seen}
use Rattle.machine_parts.specs.Rooms.{IsPlaced}
use Rattle.machine_parts.proofs.Rooming.{placed-taken, some-out}
use Rattle.machine_parts.proofs.slot.PoolSlot.take_domain.Goals as goal

pub invariant_of-self : goal.invariant_of-self
invariant_of-self c x is =
    let d : Seen = c.deref_mut.result.now in
    let placed : IsPlaced d = subst IsPlaced (sym c.deref_mut.ensures.value) (c.self.invariant c.in-Some.pool c.in-Some.is) in
    some-out (λ b. IsPlaced b.value) _ x is (subst IsPlaced (sym c.take_domain.ensures.after) (placed-taken d c.args.d.0 c.take_domain.result.granularity c.take_domain.result.domain c.take_domain.ensures.granularity c.take_domain.ensures.domain placed))

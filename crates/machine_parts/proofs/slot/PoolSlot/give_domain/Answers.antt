use Rattle.std.proofs.Common.{◌≡◌, ◌≤◌, ◌∙◌, ℕ, refl, sym, ap, subst}
use Rattle.std.specs.Prelude.{Some}
use Rattle.sched_model.specs.Pool.{domain_unit_count}
use Rattle.pool_core.specs.Seen.{Seen}
use Rattle.machine_parts.specs.Places.{StandsAt}
use Rattle.machine_parts.specs.Rooms.{IsPlaced}
use Rattle.machine_parts.proofs.Rooming.{placed-given, some-out, view-some}
use Rattle.machine_parts.proofs.Fitting.{now-here, place-here, room-here}
use Rattle.machine_parts.proofs.slot.PoolSlot.give_domain.Goals as goal

pub give_domain-requires-clause-used : goal.give_domain-requires-clause-used
give_domain-requires-clause-used c = (subst IsPlaced (sym c.deref_mut.ensures.value) (c.self.invariant c.in-Some.pool c.in-Some.is)).used

pub give_domain-requires-clause-now : goal.give_domain-requires-clause-now
give_domain-requires-clause-now c =
    let d : Seen = c.deref_mut.result.now in
    let here : c.args.self.now ≡ Some d = view-some _ _ _ c.self.view_is c.in-Some.pool c.in-Some.is ∙ ap Some (sym c.deref_mut.ensures.value) in
    now-here c.args.trail.now c.requires.goes c.args.place c.args.t.0 c.requires.now d (subst (StandsAt c.args.trail.now c.args.place) here c.requires.stands)

pub give_domain-requires-clause-place : goal.give_domain-requires-clause-place
give_domain-requires-clause-place c =
    let d : Seen = c.deref_mut.result.now in
    let here : c.args.self.now ≡ Some d = view-some _ _ _ c.self.view_is c.in-Some.pool c.in-Some.is ∙ ap Some (sym c.deref_mut.ensures.value) in
    place-here c.args.trail.now c.requires.goes c.args.place d (subst (StandsAt c.args.trail.now c.args.place) here c.requires.stands) c.args.part.d.0 c.args.part.domain c.requires.domain

pub give_domain-requires-clause-room : goal.give_domain-requires-clause-room
give_domain-requires-clause-room c =
    let d : Seen = c.deref_mut.result.now in
    let here : c.args.self.now ≡ Some d = view-some _ _ _ c.self.view_is c.in-Some.pool c.in-Some.is ∙ ap Some (sym c.deref_mut.ensures.value) in
    let stands = (subst (StandsAt c.args.trail.now c.args.place) here c.requires.stands) in
    subst (λ (g : ℕ). domain_unit_count g c.args.part.domain ≤ d.spare) ((stands.suits d refl).granularity ∙ sym c.requires.granularity)
    (room-here c.args.trail.now c.requires.goes c.args.place d stands (subst IsPlaced (sym c.deref_mut.ensures.value) (c.self.invariant c.in-Some.pool c.in-Some.is)) c.args.part.d.0 c.args.part.domain (c.requires.absent d here) c.requires.domain)

pub invariant_of-self : goal.invariant_of-self
invariant_of-self c x is =
    let d : Seen = c.deref_mut.result.now in
    let here : c.args.self.now ≡ Some d = view-some _ _ _ c.self.view_is c.in-Some.pool c.in-Some.is ∙ ap Some (sym c.deref_mut.ensures.value) in
    let stands = (subst (StandsAt c.args.trail.now c.args.place) here c.requires.stands) in
    let placed : IsPlaced d = (subst IsPlaced (sym c.deref_mut.ensures.value) (c.self.invariant c.in-Some.pool c.in-Some.is)) in
    let same : c.args.part.granularity ≡ d.granularity = c.requires.granularity ∙ sym (stands.suits d refl).granularity in
    let room : domain_unit_count c.args.part.granularity c.args.part.domain ≤ d.spare =
    subst (λ (g : ℕ). domain_unit_count g c.args.part.domain ≤ d.spare) (sym same)
    (room-here c.args.trail.now c.requires.goes c.args.place d stands placed c.args.part.d.0 c.args.part.domain (c.requires.absent d here) c.requires.domain) in
    some-out (λ b. IsPlaced b.value) _ x is
    (subst IsPlaced (sym c.give_domain.ensures)
    (placed-given d c.args.t.0 c.args.part.d.0 c.args.part.granularity c.args.part.domain c.args.params.now same
    (place-here c.args.trail.now c.requires.goes c.args.place d stands c.args.part.d.0 c.args.part.domain c.requires.domain) (c.requires.absent d here) room placed))

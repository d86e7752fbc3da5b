use Rattle.std.proofs.Common.{◌≡◌, ◌∙◌, sym, ap, subst}
use Rattle.std.specs.Prelude.{Some}
use Rattle.pool_core.specs.Seen.{Seen}
use Rattle.machine_parts.specs.Rooms.{IsPlaced}
use Rattle.machine_parts.proofs.Rooming.{placed-happened, some-out, view-none, view-some}
use Rattle.machine_parts.proofs.Standing.{enabled-slot, event-slot, has-pool, is-now, part-slot, suits-slot}
use Rattle.machine_parts.proofs.Stepping.{here-done}
use Rattle.machine_parts.proofs.slot.PoolSlot.perform_into.Goals as goal

pub unreachable-requires : goal.unreachable-requires
unreachable-requires c = has-pool c.args.trail.now c.requires.goes c.args.place c.args.t.0 c.requires.now c.args.self.now c.requires.stands c.args.action c.requires.own c.requires.enabled c.requires.home (view-none _ _ _ c.self.view_is c.in_default.is)

pub perform_into-requires-clause-now : goal.perform_into-requires-clause-now
perform_into-requires-clause-now c =
    let d : Seen = c.deref_mut.result.now in
    let here : c.args.self.now ≡ Some d = view-some _ _ _ c.self.view_is c.in-Some.pool c.in-Some.is ∙ ap Some (sym c.deref_mut.ensures.value) in
    is-now c.args.trail.now c.requires.goes c.args.place c.args.t.0 c.requires.now c.args.self.now c.requires.stands c.args.action c.requires.own c.requires.enabled c.requires.home d here

pub perform_into-requires-clause-enabled : goal.perform_into-requires-clause-enabled
perform_into-requires-clause-enabled c =
    let d : Seen = c.deref_mut.result.now in
    let here : c.args.self.now ≡ Some d = view-some _ _ _ c.self.view_is c.in-Some.pool c.in-Some.is ∙ ap Some (sym c.deref_mut.ensures.value) in
    enabled-slot c.args.trail.now c.requires.goes c.args.place c.args.t.0 c.requires.now c.args.self.now c.requires.stands c.args.action c.requires.own c.requires.enabled c.requires.home d here

pub invariant_of-self : goal.invariant_of-self
invariant_of-self c x is =
    let d : Seen = c.deref_mut.result.now in
    let placed : IsPlaced d = (subst IsPlaced (sym c.deref_mut.ensures.value) (c.self.invariant c.in-Some.pool c.in-Some.is)) in
    some-out (λ b. IsPlaced b.value) _ x is (subst IsPlaced (sym c.perform_into.ensures.after) (placed-happened c.args.t.0 c.args.action d placed))

pub returns-clause-event : goal.returns-clause-event
returns-clause-event c =
    let d : Seen = c.deref_mut.result.now in
    let here : c.args.self.now ≡ Some d = view-some _ _ _ c.self.view_is c.in-Some.pool c.in-Some.is ∙ ap Some (sym c.deref_mut.ensures.value) in
    event-slot c.args.trail.now c.requires.goes c.args.place c.args.t.0 c.requires.now c.args.self.now c.requires.stands c.args.action c.requires.own c.requires.enabled c.requires.home d here c.perform_into.new.out c.perform_into.ensures.event

pub returns-clause-part : goal.returns-clause-part
returns-clause-part c =
    let d : Seen = c.deref_mut.result.now in
    let here : c.args.self.now ≡ Some d = view-some _ _ _ c.self.view_is c.in-Some.pool c.in-Some.is ∙ ap Some (sym c.deref_mut.ensures.value) in
    part-slot c.args.trail.now c.requires.goes c.args.place c.args.t.0 c.requires.now c.args.self.now c.requires.stands c.args.action c.requires.own c.requires.enabled c.requires.home d here c.perform_into.new.self c.perform_into.ensures.after

pub returns-clause-stands : goal.returns-clause-stands
returns-clause-stands c =
    let d : Seen = c.deref_mut.result.now in
    let here : c.args.self.now ≡ Some d = view-some _ _ _ c.self.view_is c.in-Some.pool c.in-Some.is ∙ ap Some (sym c.deref_mut.ensures.value) in
    here-done c.args.trail.now c.requires.goes c.args.t.0 c.requires.now c.args.action c.requires.own c.requires.enabled c.args.place c.requires.home c.perform_into.new.out (event-slot c.args.trail.now c.requires.goes c.args.place c.args.t.0 c.requires.now c.args.self.now c.requires.stands c.args.action c.requires.own c.requires.enabled c.requires.home d here c.perform_into.new.out c.perform_into.ensures.event) c.perform_into.new.self c.requires.stands.place
    (part-slot c.args.trail.now c.requires.goes c.args.place c.args.t.0 c.requires.now c.args.self.now c.requires.stands c.args.action c.requires.own c.requires.enabled c.requires.home d here c.perform_into.new.self c.perform_into.ensures.after) (suits-slot c.args.trail.now c.requires.goes c.args.place c.args.t.0 c.requires.now c.args.self.now c.requires.stands c.args.action c.requires.own c.requires.enabled c.requires.home d here c.perform_into.new.self c.perform_into.ensures.after)

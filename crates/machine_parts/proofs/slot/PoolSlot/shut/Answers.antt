use Rattle.std.proofs.Common.{◌≡◌, ◌∙◌, sym, ap, subst}
use Rattle.std.specs.Prelude.{Some}
use Rattle.sched_model.specs.Policy.{records_kind}
use Rattle.pool_core.specs.Seen.{Seen}
use Rattle.machine_parts.specs.Places.{StandsAt, state_of}
use Rattle.machine_parts.specs.Rooms.{IsPlaced}
use Rattle.machine_parts.specs.Spares.{IsSpare}
use Rattle.machine_parts.proofs.Rooming.{view-some}
use Rattle.machine_parts.proofs.Shelving.{shut-spare}
use Rattle.machine_parts.proofs.slot.PoolSlot.shut.Goals as goal

pub shut-requires-clause-used : goal.shut-requires-clause-used
shut-requires-clause-used c =
    let at : c.self.inside.state ≡ Some c.in-Some.pool = (let value = c.take.ensures.value in let is = c.in-Some.is in cc) in
    let d : Seen = c.deref_mut.result.now in
    let placed : IsPlaced d = subst IsPlaced (sym c.deref_mut.ensures.value) (c.self.invariant c.in-Some.pool at) in
    placed.used

pub returns-clause-spare : goal.returns-clause-spare
returns-clause-spare c =
    let at : c.self.inside.state ≡ Some c.in-Some.pool = (let value = c.take.ensures.value in let is = c.in-Some.is in cc) in
    let d : Seen = c.deref_mut.result.now in
    let placed : IsPlaced d = subst IsPlaced (sym c.deref_mut.ensures.value) (c.self.invariant c.in-Some.pool at) in
    let here : c.args.self.now ≡ Some d = view-some _ _ _ c.self.view_is c.in-Some.pool at ∙ ap Some (sym c.deref_mut.ensures.value) in
    subst (λ (s : Seen). IsSpare c.args.trail.now.input (state_of c.args.trail.now).now (records_kind s.pool.scheduler.records) s) (sym c.shut.ensures)
    (shut-spare c.args.trail.now c.requires.goes c.args.place d (subst (StandsAt c.args.trail.now c.args.place) here c.requires.stands) (c.requires.empty d here) placed)

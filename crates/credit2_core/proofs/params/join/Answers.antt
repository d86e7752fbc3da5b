use Rattle.std.proofs.Common.{◌≡◌, ◌<◌, ◌∙◌, ◌-◌, sym, ap, subst}
use Rattle.std.specs.Prelude.{List, Option, slice_set}
use Rattle.unit_places.specs.Masks.{mask_of}
use Rattle.sched_base.specs.declared.Cores.{Cores}
use Rattle.sched_base.specs.declared.Moment.{Moment}
use Rattle.sched_base.specs.declared.UnitId.{UnitId}
use Rattle.sched_model.specs.declared.state.Credit2Domain.{Credit2Domain}
use Rattle.sched_model.specs.Places.{at_place, put_at}
use Rattle.sched_model.specs.Credit2.{fresh_credit2_domain}
use Rattle.credit2_core.specs.declared.state.Credit2State.{Credit2State}
use Rattle.credit2_core.specs.Places.{refill_of}
use Rattle.credit2_core.specs.Domains.{refreshed_cores}
use Rattle.credit2_core.specs.Credit2State.{IsSound}
use Rattle.credit2_core.proofs.Keeping.{sound_joined}
use Rattle.credit2_core.proofs.params.join.Goals as goal

pub returns-clause-sound : goal.returns-clause-sound
returns-clause-sound c =
    let h : Credit2State = c.args.state.now in
    let d = c.args.d.0 in
    let sets : List Cores = c.copies-sets.result in
    let fresh : Credit2Domain = fresh_credit2_domain c.args.weight c.args.cap c.args.units c.args.t.0 in
    let domains : List (Option Credit2Domain) = put_at d fresh h.records.domains in
    let placed : c.set_place-2.new.places ≡ domains = c.set_place-2.ensures ∙ ap (λ (x : Credit2Domain). put_at d x h.records.domains) c.fresh_domain-domain.ensures in
    let refills : c.rearm.new.refills ≡ slice_set h.refills d (refill_of (at_place domains d)) =
    c.rearm.ensures ∙ ap (λ (ds : List (Option Credit2Domain)). slice_set h.refills d (refill_of (at_place ds d))) (c.as_slice-2.ensures ∙ placed)
    in
    let written : (u : UnitId) → u.n < 256 → mask_of c.refresh.new.masks u ≡ refreshed_cores h.masks (put_at d sets h.affinity) d u =
    λ u low. c.refresh.ensures u low ∙ ap (λ (a : List (Option (List Cores))). refreshed_cores h.masks a d u) (c.as_slice.ensures ∙ c.set_place.ensures)
    in
    subst (λ (ds : List (Option Credit2Domain)). IsSound (record h { records = record h.records { domains = ds }; affinity = c.set_place.new.places; masks = c.refresh.new.masks; refills = c.rearm.new.refills; spare = h.spare - c.args.units; latest = c.args.t.0 })) (sym placed)
    (subst (λ (a : List (Option (List Cores))). IsSound (record h { records = record h.records { domains = domains }; affinity = a; masks = c.refresh.new.masks; refills = c.rearm.new.refills; spare = h.spare - c.args.units; latest = c.args.t.0 })) (sym c.set_place.ensures)
    (subst (λ (rs : List (Option Moment)). IsSound (record h { records = record h.records { domains = domains }; affinity = put_at d sets h.affinity; masks = c.refresh.new.masks; refills = rs; spare = h.spare - c.args.units; latest = c.args.t.0 })) (sym refills)
    (sound_joined h d c.args.weight c.args.cap c.args.units c.args.t.0 sets c.refresh.new.masks c.requires.sound c.requires.place c.requires.absent c.requires.few c.requires.room c.requires.weight c.requires.cap c.requires.now.after c.copies-sets.ensures written)))

use Rattle.std.proofs.Common.{◌≡◌, ◌∙◌, ◌+◌, sym, ap, subst}
use Rattle.std.specs.Prelude.{List, Option, slice_set}
use Rattle.sched_base.specs.declared.Cores.{Cores}
use Rattle.sched_base.specs.declared.Moment.{Moment}
use Rattle.sched_model.specs.declared.state.Credit2Domain.{Credit2Domain}
use Rattle.sched_model.specs.Places.{at_place, clear_at}
use Rattle.credit2_core.specs.declared.state.Credit2State.{Credit2State}
use Rattle.credit2_core.specs.Places.{refill_of}
use Rattle.sched_ops.specs.Affinity.{joined_unit_count}
use Rattle.credit2_core.specs.Credit2State.{IsSound}
use Rattle.credit2_core.proofs.Keeping.{sound_parted}
use Rattle.credit2_core.proofs.params.part.Goals as goal

pub returns-clause-sound : goal.returns-clause-sound
returns-clause-sound c =
    let h : Credit2State = c.args.state.now in
    let d = c.args.d.0 in
    let domains : List (Option Credit2Domain) = clear_at d h.records.domains in
    let refills : c.rearm.new.refills ≡ slice_set h.refills d (refill_of (at_place domains d)) =
    c.rearm.ensures ∙ ap (λ (ds : List (Option Credit2Domain)). slice_set h.refills d (refill_of (at_place ds d))) (c.as_slice-2.ensures ∙ c.set_place-2.ensures)
    in
    let count : c.count_at-units.result ≡ joined_unit_count h.affinity d = c.count_at-units.ensures.exact ∙ ap (λ (a : List (Option (List Cores))). joined_unit_count a d) c.as_slice.ensures in
    subst (λ (ds : List (Option Credit2Domain)). IsSound (record h { records = record h.records { domains = ds }; affinity = c.set_place.new.places; refills = c.rearm.new.refills; spare = h.spare + c.count_at-units.result })) (sym c.set_place-2.ensures)
    (subst (λ (a : List (Option (List Cores))). IsSound (record h { records = record h.records { domains = domains }; affinity = a; refills = c.rearm.new.refills; spare = h.spare + c.count_at-units.result })) (sym c.set_place.ensures)
    (subst (λ (rs : List (Option Moment)). IsSound (record h { records = record h.records { domains = domains }; affinity = clear_at d h.affinity; refills = rs; spare = h.spare + c.count_at-units.result })) (sym refills)
    (sound_parted h d c.count_at-units.result c.requires.sound c.requires.idle count)))

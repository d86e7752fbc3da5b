use Rattle.std.proofs.Common.{◌≡◌, ◌∙◌, sym, ap, subst}
use Rattle.std.specs.Prelude.{List, Option, slice_set}
use Rattle.sched_base.specs.declared.Moment.{Moment}
use Rattle.sched_model.specs.declared.state.Credit2Records.{Credit2Records}
use Rattle.sched_model.specs.declared.state.Credit2Domain.{Credit2Domain}
use Rattle.sched_model.specs.Places.{at_place}
use Rattle.sched_model.specs.Credit2.{refilled_pool}
use Rattle.credit2_core.specs.declared.state.Credit2State.{Credit2State}
use Rattle.credit2_core.specs.Places.{refill_of}
use Rattle.credit2_core.specs.Credit2State.{IsSound}
use Rattle.sched_model.specs.Credit2.{most_weight, domain_after_refill}
use Rattle.std.proofs.Common.{true, refl}
use Rattle.credit2_core.specs.Whole.{IsReadyBut}
use Rattle.credit2_core.proofs.Kept.{but_of, but_again}
use Rattle.credit2_core.proofs.Keeping.{sound_refilled}
use Rattle.credit2_core.proofs.Ranges.{shared_fits, range_later}
use Rattle.credit2_core.proofs.timers.refill.Goals as goal

pub refill-requires-clause-fits : goal.refill-requires-clause-fits
refill-requires-clause-fits c = shared_fits c.args.t.0 c.args.state.now.records (range_later c.args.state.now.latest c.args.t.0 c.args.state.now.records c.requires.now.after c.requires.sound.range)

pub returns-clause-sound : goal.returns-clause-sound
returns-clause-sound c =
    let h : Credit2State = c.args.state.now in
    let next : Credit2Records = refilled_pool c.args.t.0 c.args.d.0 h.records in
    let refills : c.rearm.new.refills ≡ slice_set h.refills c.args.d.0 (refill_of (at_place next.domains c.args.d.0)) =
    c.rearm.ensures ∙ ap (λ (ds : List (Option Credit2Domain)). slice_set h.refills c.args.d.0 (refill_of (at_place ds c.args.d.0))) (c.as_slice.ensures ∙ ap (λ (r : Credit2Records). r.domains) c.refill.ensures)
    in
    subst (λ (r : Credit2Records). IsSound (record h { records = r; refills = c.rearm.new.refills; latest = c.args.t.0 })) (sym c.refill.ensures)
    (subst (λ (rs : List (Option Moment)). IsSound (record h { records = next; refills = rs; latest = c.args.t.0 })) (sym refills)
    (sound_refilled h c.args.d.0 c.args.t.0 c.requires.sound c.requires.now.after c.requires.due))

pub follow-requires-clause-but : goal.follow-requires-clause-but
follow-requires-clause-but c =
    let h : Credit2State = c.args.state.now in
    subst (λ (r : Credit2Records). IsReadyBut c.args.d.0 true r h.queue.units c.args.ready.now) (sym c.refill.ensures)
    (but_again c.args.d.0 true (domain_after_refill (most_weight h.records) c.args.t.0) h.records h.queue.units c.args.ready.now (λ x. refl) (but_of c.args.d.0 true h c.args.ready.now c.requires.ready))

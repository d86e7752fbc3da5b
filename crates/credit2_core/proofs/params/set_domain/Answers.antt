use Rattle.std.proofs.Common.{◌≡◌, ◌∙◌, sym, ap, subst}
use Rattle.std.specs.Prelude.{List, Option, slice_set}
use Rattle.sched_base.specs.declared.Moment.{Moment}
use Rattle.sched_model.specs.declared.state.Credit2Records.{Credit2Records}
use Rattle.sched_model.specs.declared.state.Credit2Domain.{Credit2Domain}
use Rattle.sched_model.specs.Places.{at_place}
use Rattle.sched_model.specs.Credit2.{records_with_terms}
use Rattle.credit2_core.specs.declared.state.Credit2State.{Credit2State}
use Rattle.credit2_core.specs.Places.{refill_of}
use Rattle.credit2_core.specs.Credit2State.{IsSound}
use Rattle.credit2_core.proofs.Keeping.{sound_set_domain}
use Rattle.credit2_core.proofs.Ranges.{shared_fits, range_later}
use Rattle.credit2_core.proofs.params.set_domain.Goals as goal

pub set_domain-requires-clause-fits : goal.set_domain-requires-clause-fits
set_domain-requires-clause-fits c = shared_fits c.args.t.0 c.args.state.now.records (range_later c.args.state.now.latest c.args.t.0 c.args.state.now.records c.requires.now.after c.requires.sound.range)

pub returns-clause-sound : goal.returns-clause-sound
returns-clause-sound c =
    let h : Credit2State = c.args.state.now in
    let next : Credit2Records = records_with_terms c.args.t.0 c.args.d.0 c.args.weight c.args.cap h.records in
    let refills : c.rearm.new.refills ≡ slice_set h.refills c.args.d.0 (refill_of (at_place next.domains c.args.d.0)) =
    c.rearm.ensures ∙ ap (λ (ds : List (Option Credit2Domain)). slice_set h.refills c.args.d.0 (refill_of (at_place ds c.args.d.0))) (c.as_slice.ensures ∙ ap (λ (r : Credit2Records). r.domains) c.set_domain.ensures)
    in
    subst (λ (r : Credit2Records). IsSound (record h { records = r; refills = c.rearm.new.refills; latest = c.args.t.0 })) (sym c.set_domain.ensures)
    (subst (λ (rs : List (Option Moment)). IsSound (record h { records = next; refills = rs; latest = c.args.t.0 })) (sym refills)
    (sound_set_domain h c.args.d.0 c.args.t.0 c.args.weight c.args.cap c.requires.sound c.requires.now.after c.requires.weight c.requires.cap))

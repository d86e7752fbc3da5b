use Rattle.std.proofs.Common.{◌∙◌, true, sym, ap, subst, arith, length}
use Rattle.std.specs.Prelude.{Some, option_map}
use Rattle.sched_base.specs.declared.UnitId.{UnitId}
use Rattle.sched_model.specs.declared.state.Credit2Records.{Credit2Records}
use Rattle.sched_model.specs.Places.{at_place}
use Rattle.sched_model.specs.Credit2.{most_weight}
use Rattle.sched_laws.proofs.EachPlace.{length_set}
use Rattle.scheduler_records.specs.Bounds.{PoolFits, own_charged}
use Rattle.scheduler_records.proofs.Ranges.{pool_in_range}
use Rattle.scheduler_records.proofs.Steps.{burn_cur_fits, burn_cur-own}
use Rattle.credit2_core.specs.declared.state.Credit2State.{Credit2State}
use Rattle.credit2_core.specs.Credit2State.{IsLineOf}
use Rattle.credit2_core.specs.Whole.{IsReadyBut}
use Rattle.credit2_core.proofs.Kept.{but_of, but_again, own_weight}
use Rattle.credit2_core.proofs.Ranges.{shared_fits, range_later}
use Rattle.credit2_core.proofs.Lines.{line_burn_cur}
use Rattle.credit2_core.proofs.decide.charge_own.Goals as goal

pub charge-requires-clause-most : goal.charge-requires-clause-most
charge-requires-clause-most c = c.requires.ready.most

pub charge-requires-clause-fits : goal.charge-requires-clause-fits
charge-requires-clause-fits c = shared_fits c.args.ask.now.at.0 c.args.state.now.records (range_later c.args.state.now.latest c.args.ask.now.at.0 c.args.state.now.records c.requires.asked.now.after c.requires.sound.range)

pub follow-requires-clause-few : goal.follow-requires-clause-few
follow-requires-clause-few c =
    let records : Credit2Records = c.args.state.now.records in
    let u : UnitId = c.in-Some.u in
    let f = own_charged (most_weight records) c.args.ask.now.at.0 u.n in
    let is = ap (λ (r : Credit2Records). length r.domains) (c.charge.ensures ∙ burn_cur-own u c.args.ask.now.at.0 records) in
    let long = length_set u.dom.0 (option_map f (at_place records.domains u.dom.0)) records.domains in
    let few = c.requires.sound.range.few in
    omega (arith, is, long, few)

pub follow-requires-clause-but : goal.follow-requires-clause-but
follow-requires-clause-but c =
    let h : Credit2State = c.args.state.now in
    let u : UnitId = c.in-Some.u in
    let f = own_charged (most_weight h.records) c.args.ask.now.at.0 u.n in
    subst (λ (r : Credit2Records). IsReadyBut u.dom.0 true r h.queue.units c.args.ready.now) (sym (c.charge.ensures ∙ burn_cur-own u c.args.ask.now.at.0 h.records))
    (but_again u.dom.0 true f h.records h.queue.units c.args.ready.now (own_weight (most_weight h.records) c.args.ask.now.at.0 u.n) (but_of u.dom.0 true h c.args.ready.now c.requires.ready))

pub returns-in-Some-clause-fits : goal.returns-in-Some-clause-fits
returns-in-Some-clause-fits c =
    subst (PoolFits c.args.ask.now.at.0) (sym c.charge.ensures)
    (burn_cur_fits (Some c.in-Some.u) c.args.ask.now.at.0 c.args.state.now.records c.requires.asked.now.early
    (shared_fits c.args.ask.now.at.0 c.args.state.now.records (range_later c.args.state.now.latest c.args.ask.now.at.0 c.args.state.now.records c.requires.asked.now.after c.requires.sound.range)))

pub returns-in-Some-clause-line : goal.returns-in-Some-clause-line
returns-in-Some-clause-line c =
    subst (λ (r : Credit2Records). IsLineOf c.args.state.now.affinity r c.args.state.now.queue.units) (sym c.charge.ensures)
    (line_burn_cur c.args.state.now.affinity (Some c.in-Some.u) c.args.ask.now.at.0 c.args.state.now.records c.args.state.now.queue.units c.requires.sound.line)

pub returns-in_default-clause-fits : goal.returns-in_default-clause-fits
returns-in_default-clause-fits c =
    pool_in_range c.args.ask.now.at.0 c.args.state.now.records c.requires.asked.now.early
    (shared_fits c.args.ask.now.at.0 c.args.state.now.records (range_later c.args.state.now.latest c.args.ask.now.at.0 c.args.state.now.records c.requires.asked.now.after c.requires.sound.range))

use Rattle.std.proofs.Common.{◌≡◌, ◌∙◌, Bool, true, false, refl, sym, ap}
use Rattle.std.specs.Prelude.{Option}
use Rattle.sched_base.specs.declared.UnitId.{UnitId}
use Rattle.sched_model.specs.Places.{is_unit}
use Rattle.arrival_queue.specs.Filters.{first_that, has_core_bit}
use Rattle.credit2_core.specs.declared.state.Credit2State.{Credit2State}
use Rattle.credit2_core.proofs.Kept.{first_runnable, ready_left}
use Rattle.credit2_core.proofs.choice.depart.Goals as goal

pub returns-clause-ready : goal.returns-clause-ready
returns-clause-ready c =
    let h : Credit2State = c.args.state.now in
    let kept = c.args.ready.now in
    let p : UnitId → Bool = λ w. has_core_bit kept.domains.0 w.dom.0 in
    let was : kept.first ≡ first_that p h.queue.units = c.requires.ready.first ∙ sym (first_runnable h.records kept.domains.0 h.queue.units c.requires.ready.domains) in
    let first : c.first_without-first.result ≡ first_that p c.leave.new.state.queue.units =
    elim (is_unit kept.first c.args.u) as (λ b. is_unit kept.first c.args.u ≡ b → c.first_without-first.result ≡ first_that p c.leave.new.state.queue.units) [
      | true ↦ λ is. c.first_without-first.ensures.own is ∙ sym (c.leave.ensures.without p)
      | false ↦ λ is. c.first_without-first.ensures.other is ∙ was ∙ sym (c.leave.ensures.first p (ap (λ (o : Option UnitId). is_unit o c.args.u) (sym was) ∙ is))
    ] refl
    in
    ready_left h c.leave.new.state kept (record kept { first = c.first_without-first.result }) (ap (λ (x : Credit2State). x.records) c.leave.ensures.rest) c.requires.ready refl refl first

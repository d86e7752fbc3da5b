use Rattle.std.proofs.Common.{◌≡◌, ◌∙◌, [], List, Option, Some, ap, sym, subst, arith, length}
use Rattle.sched_base.specs.declared.Moment.{Moment}
use Rattle.sched_base.specs.declared.UnitId.{UnitId}
use Rattle.sched_ops.specs.declared.timer.Timer.TheVariants.{Repl}
use Rattle.due_heap.specs.Dues.{IsArmed, HasCome}
use Rattle.rtds_core.specs.Alarms.{armed_timers as armed, timer_of}
use Rattle.sched_ops.specs.Timers.{next_armed}
use Rattle.rtds_core.proofs.Armed.{none_armed, next_later, next_due, IsLeast}
use Rattle.rtds_core.proofs.alarms.Alarms.next.Goals as goal
use Rattle.due_heap.proofs.Tree.{armed_below}

pub first_due-requires : goal.first_due-requires
first_due-requires c = record { power = record { exponent = 11; is = ap (λ (xs : List (Option Moment)). length xs) c.self.invariant.0 ∙ c.self.invariant.1 } }

pub timer_at-requires-clause-inside : goal.timer_at-requires-clause-inside
timer_at-requires-clause-inside c =
    let come = c.in-Some.ensures.come in
    let below = armed_below c.self.inside.heap c.in-Some.id come.at come.armed in
    let long : length c.self.inside.heap ≡ 2048 = ap (λ (xs : List (Option Moment)). length xs) c.self.invariant.0 ∙ c.self.invariant.1 in
    omega (arith, below, long)

pub returns-in-Some : goal.returns-in-Some
returns-in-Some c =
    let same : c.self.inside.heap ≡ c.args.self.now = c.self.invariant.0 ∙ c.self.view_is in
    let come : HasCome c.args.self.now c.args.t.0 c.in-Some.id = subst (λ (dues : List (Option Moment)). HasCome dues c.args.t.0 c.in-Some.id) same c.in-Some.ensures.come in
    c.timer_at.ensures ∙ ap (λ (dues : List (Option Moment)). timer_of dues c.in-Some.id) (c.as_slice.ensures.value ∙ c.self.view_is)
    ∙ next_due c.args.t.0 c.args.self.now c.in-Some.id come.at come.armed come.come
    (λ other m is low. c.in-Some.ensures.first other (record { at = m; armed = subst (λ (dues : List (Option Moment)). IsArmed dues other m) (sym same) is; come = low }))

pub returns-in_err-at-in-None : goal.returns-in_err-at-in-None
returns-in_err-at-in-None c =
    let empty : armed 0 c.args.self.now ≡ [] = none_armed 0 c.args.self.now (λ id at is. c.in_err-at-in-None.ensures.none id at (subst (λ (dues : List (Option Moment)). IsArmed dues id at) (sym c.self.view_is ∙ sym c.self.invariant.0) is)) in
    c.from_residual.ensures ∙ sym (ap (next_armed c.args.t.0) empty)

pub unit_of-requires : goal.unit_of-requires
unit_of-requires c = (let below = armed_below c.self.inside.heap c.in_ok-at-in-None.id c.in_ok-at-in-None.at c.in_ok-at-in-None.ensures.armed in let long : length c.self.inside.heap ≡ 2048 = ap (λ (xs : List (Option Moment)). length xs) c.self.invariant.0 ∙ c.self.invariant.1 in omega (arith, below, long))

pub returns-in_ok-at-in-None : goal.returns-in_ok-at-in-None
returns-in_ok-at-in-None c =
    let same : c.self.inside.heap ≡ c.args.self.now = c.self.invariant.0 ∙ c.self.view_is in
    let is : IsLeast c.args.self.now c.in_ok-at-in-None.id c.in_ok-at-in-None.at =
    record {
      there = subst (λ (dues : List (Option Moment)). IsArmed dues c.in_ok-at-in-None.id c.in_ok-at-in-None.at) same c.in_ok-at-in-None.ensures.armed;
      least = λ other m has. c.in_ok-at-in-None.ensures.first other m (subst (λ (dues : List (Option Moment)). IsArmed dues other m) (sym same) has);
    } in
    ap (λ (u : UnitId). Some (c.in_ok-at-in-None.at, Repl u)) c.unit_of.ensures
    ∙ sym (next_later c.args.t.0 c.args.self.now c.in_ok-at-in-None.id c.in_ok-at-in-None.at (λ other m has. c.in-None.ensures.none other m (subst (λ (dues : List (Option Moment)). IsArmed dues other m) (sym same) has)) is)

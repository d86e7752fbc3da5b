use Rattle.std.proofs.Common.{sym, ap, ◌∙◌, subst}
use Rattle.sched_model.specs.EligibleUnits.{Decision}
use Rattle.sched_model.specs.Policy.{decision_of}
use Rattle.plain_schedulers.specs.Tells.{Tells}
use Rattle.plain_schedulers.proofs.Deciding.{decision_by-parts, after_decision-some, after_decision-none}
use Rattle.plain_schedulers.proofs.policy.decide.Goals as goal

pub returns-in-Some-clause-decided : goal.returns-in-Some-clause-decided
returns-in-Some-clause-decided c =
    subst (Tells c.decide_by-decided.result) (decision_by-parts c.args.ask.now c.args.scheduler.now _ _ c.as_slice.ensures.items c.as_slice-2.ensures) c.decide_by-decided.ensures.decided

pub returns-in_default-clause-decided : goal.returns-in_default-clause-decided
returns-in_default-clause-decided c =
    subst (Tells c.decide_by-decided.result) (decision_by-parts c.args.ask.now c.args.scheduler.now _ _ c.as_slice.ensures.items c.as_slice-2.ensures) c.decide_by-decided.ensures.decided

pub returns-in-Some-clause-scheduler : goal.returns-in-Some-clause-scheduler
returns-in-Some-clause-scheduler c =
    let same = decision_by-parts c.args.ask.now c.args.scheduler.now _ _ c.as_slice.ensures.items c.as_slice-2.ensures in
    let tells = returns-in-Some-clause-decided c in
    after_decision-some (decision_of c.args.ask.now c.args.scheduler.now) c.args.scheduler.now c.in-Some.u _ _ (sym tells.unit ∙ c.in-Some.is) c.drop_unit.ensures (c.decide_by-decided.ensures.records ∙ ap (λ (d : Decision). d.records) same)

pub returns-in_default-clause-scheduler : goal.returns-in_default-clause-scheduler
returns-in_default-clause-scheduler c =
    let same = decision_by-parts c.args.ask.now c.args.scheduler.now _ _ c.as_slice.ensures.items c.as_slice-2.ensures in
    let tells = returns-in_default-clause-decided c in
    after_decision-none (decision_of c.args.ask.now c.args.scheduler.now) c.args.scheduler.now _ (sym tells.unit ∙ c.in_default.is) (c.decide_by-decided.ensures.records ∙ ap (λ (d : Decision). d.records) same)

use Rattle.std.proofs.Common.{◌≡◌, ◌∙◌, sym, ap, refl, Bool, true, false, not, ℕ}
use Rattle.std.specs.Prelude.{Option, None, Some, is_some, ◌||◌, ◌&&◌}
use Rattle.std.specs.List.{list_any}
use Rattle.sched_base.specs.declared.UnitId.{UnitId}
use Rattle.sched_model.specs.declared.state.Credit2Records.{Credit2Records}
use Rattle.sched_model.specs.Policy.{has_better_waiting}
use Rattle.sched_model.specs.Credit2.{is_rate_limited, most_weight, change_unit, burned_unit, unit_credit, has_more_credit}
use Rattle.sched_model.specs.EligibleUnits.{is_allowed_by}
use Rattle.queue_laws.specs.Arrivals.{arrivals}
use Rattle.credit2_core.specs.Credit2State.{scheduler_in}
use Rattle.credit2_core.specs.Choice.{may_take, is_better_of, best_of}
use Rattle.credit2_core.proofs.Choosing.{some_passes, better_passes}
use Rattle.credit2_core.proofs.choice.better_waits.Goals as goal

pub returns-in-None : goal.returns-in-None
returns-in-None c =
    let h = c.args.state.now in
    c.is_some.ensures ∙ ap is_some c.best_ready.ensures ∙ some_passes h.records (may_take h.affinity c.args.home.0 c.args.core.0 h.records) (arrivals h.queue.units)
    ∙ ap (λ (cur : Option UnitId). has_better_waiting cur c.args.since.0 c.args.t.0 c.args.core.0 c.args.home.0 (scheduler_in h)) (sym c.in-None.is)

same_form : (records : Credit2Records) (own : UnitId) (since t : ℕ) (o : Option UnitId) → is_better_of records own since t o ≡ elim o as (λ _. Bool) [ None ↦ false | Some u ↦ has_more_credit records own since t u ]
same_form records own since t None = refl
same_form records own since t (Some u) = refl

pub returns-else-not-may_be_on : goal.returns-else-not-may_be_on
returns-else-not-may_be_on c =
    let h = c.args.state.now in
    let own : UnitId = c.in-Some.own in
    let p : UnitId → Bool = may_take h.affinity c.args.home.0 c.args.core.0 h.records in
    let allowed : is_allowed_by h.affinity c.args.home.0 c.args.core.0 own ≡ true = sym c.may_be_on.ensures ∙ c.if-not-may_be_on.false in
    let any : Bool = list_any (λ u. p u && has_more_credit h.records own c.args.since.0 c.args.t.0 u) (arrivals h.queue.units) in
    c.one_is_better.ensures
    ∙ same_form h.records own c.args.since.0 c.args.t.0 (best_of (arrivals h.queue.units) h.affinity c.args.home.0 c.args.core.0 h.records)
    ∙ better_passes h.records (not (is_rate_limited h.records c.args.since.0 c.args.t.0)) (unit_credit (change_unit own (burned_unit (most_weight h.records) c.args.t.0) h.records) own) p (arrivals h.queue.units)
    ∙ ap (λ (b : Bool). not b || any) (sym allowed)
    ∙ ap (λ (cur : Option UnitId). has_better_waiting cur c.args.since.0 c.args.t.0 c.args.core.0 c.args.home.0 (scheduler_in h)) (sym c.in-Some.is)

pub may_be_on-requires-clause-joined : goal.may_be_on-requires-clause-joined
may_be_on-requires-clause-joined c = (c.requires.own c.in-Some.own c.in-Some.is).member

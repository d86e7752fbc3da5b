use Rattle.std.proofs.Common.{◌∙◌, sym, ap, rules, w64, FitsSigned}
use Rattle.std.specs.Prelude.{Option, Some, None, not, ℤ, pos}
use Rattle.std.proofs.lemmas.Int.{to_z-of_z}
use Rattle.sched_base.specs.declared.UnitId.{UnitId}
use Rattle.sched_model.specs.declared.ask.Ask.{Ask}
use Rattle.sched_model.specs.declared.state.Credit2Records.{Credit2Records}
use Rattle.sched_model.specs.declared.state.Scheduler.{Scheduler}
use Rattle.sched_model.specs.Places.{same_unit}
use Rattle.sched_model.specs.EligibleUnits.{is_unit_eligible}
use Rattle.sched_model.specs.Credit2.{richest_unit, unit_credit}
use Rattle.scheduler_records.specs.Parts.{credit2_scheduler}
use Rattle.scheduler_records.proofs.Items.{filter-both}
use Rattle.plain_schedulers.proofs.credit2_choice.best_other.Goals as goal

-- the credit of the unit that was found, or 0
found : Credit2Records → Option UnitId → ℤ
found records o = elim o [ None ↦ pos 0 | Some w ↦ unit_credit records w ]

pub returns-in-None : goal.returns-in-None
unfolding found
returns-in-None c =
    let ask : Ask = c.args.ask.now in
    let records : Credit2Records = c.args.records.now in
    let scheduler : Scheduler = credit2_scheduler c.args.queue.now c.args.affinity.now records in
    let both = filter-both (λ w. not (same_unit c.args.u w)) (is_unit_eligible scheduler ask.home.0 ask.core.0 ask.at.0) c.args.queue.now in
    ap (found records) (c.in-None.ensures ∙ ap (richest_unit records None) (sym both))

pub returns-in-Some : goal.returns-in-Some
unfolding found
returns-in-Some c =
    let ask : Ask = c.args.ask.now in
    let records : Credit2Records = c.args.records.now in
    let scheduler : Scheduler = credit2_scheduler c.args.queue.now c.args.affinity.now records in
    let both = filter-both (λ w. not (same_unit c.args.u w)) (is_unit_eligible scheduler ask.home.0 ask.core.0 ask.at.0) c.args.queue.now in
    let fits : FitsSigned w64 c.credit_of.result = search rules in
    to_z-of_z w64 c.credit_of.result fits ∙ c.credit_of.ensures ∙ ap (found records) (c.in-Some.ensures ∙ ap (richest_unit records None) (sym both))

use Rattle.std.proofs.Common.{sym, ◌∙◌}
use Rattle.sched_model.specs.declared.state.RtdsUnit.{RtdsUnit}
use Rattle.scheduler_records.proofs.RtdsLemmas.{change_unit-there, change_unit-none}
use Rattle.scheduler_records.proofs.rtds.set_next.Goals as goal

pub returns-in-Some : goal.returns-in-Some
returns-in-Some c =
    c.put_unit.ensures
    ∙ change_unit-there c.args.domains.now c.args.u (λ (x : RtdsUnit). record x { next_period = c.args.period.0; next_budget = c.args.budget.0; next_extra = c.args.extra }) c.in-Some.x.now (rw c.as_slice.ensures at (sym c.in-Some.ensures))

pub returns-in_default : goal.returns-in_default
returns-in_default c = sym (change_unit-none c.args.domains.now c.args.u (λ (x : RtdsUnit). record x { next_period = c.args.period.0; next_budget = c.args.budget.0; next_extra = c.args.extra }) (rw c.as_slice.ensures at (sym c.in_default.ensures)))

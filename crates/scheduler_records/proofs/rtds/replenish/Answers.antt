use Rattle.std.proofs.Common.{sym, ap, ◌∙◌}
use Rattle.sched_model.specs.Rtds.{change_unit, unit_after_replenish}
use Rattle.sched_model.specs.declared.state.RtdsUnit.{RtdsUnit}
use Rattle.scheduler_records.proofs.RtdsLemmas.{change_unit-there, change_unit-none}
use Rattle.scheduler_records.proofs.rtds.replenish.Goals as goal

pub returns-in-Some : goal.returns-in-Some
returns-in-Some c =
    c.put_unit.ensures ∙ ap (λ (x : RtdsUnit). change_unit c.args.u (λ y. x) c.args.domains.now) c.replenish_unit-unit.ensures
    ∙ change_unit-there c.args.domains.now c.args.u (unit_after_replenish c.args.t.0) c.in-Some.x.now (rw c.as_slice.ensures at (sym c.in-Some.ensures))

pub returns-in_default : goal.returns-in_default
returns-in_default c = sym (change_unit-none c.args.domains.now c.args.u (unit_after_replenish c.args.t.0) (rw c.as_slice.ensures at (sym c.in_default.ensures)))

use Rattle.std.proofs.Common.{sym, ◌∙◌}
use Rattle.sched_model.specs.declared.state.RtdsUnit.{RtdsUnit}
use Rattle.scheduler_records.proofs.RtdsLemmas.{change_unit-there, change_unit-none}
use Rattle.scheduler_records.proofs.rtds.set_running.Goals as goal

pub returns-in-Some : goal.returns-in-Some
returns-in-Some c =
    c.put_unit.ensures
    ∙ change_unit-there c.args.domains.now c.args.u (λ (x : RtdsUnit). record x { burned = c.args.from }) c.in-Some.x.now (rw c.as_slice.ensures at (sym c.in-Some.ensures))

pub returns-in_default : goal.returns-in_default
returns-in_default c = sym (change_unit-none c.args.domains.now c.args.u (λ (x : RtdsUnit). record x { burned = c.args.from }) (rw c.as_slice.ensures at (sym c.in_default.ensures)))

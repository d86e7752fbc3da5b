use Rattle.std.proofs.Common.{sym, ◌∙◌}
use Rattle.sched_null.proofs.Coming.{given_none, given_not}
use Rattle.sched_null.proofs.state.given_core.Goals as goal

pub returns-in_err-core-clause-none : goal.returns-in_err-core-clause-none
returns-in_err-core-clause-none c =
    let u = c.args.units.now in
    rw c.from_residual.ensures (given_none u.queue u.affinity c.args.kept.now c.args.home.0 c.args.u c.in_err-core.ensures.none)

pub returns-else-may_have-clause-none : goal.returns-else-may_have-clause-none
returns-else-may_have-clause-none c =
    let u = c.args.units.now in
    given_not u.queue u.affinity c.args.kept.now c.args.home.0 c.args.u c.keeps.ensures c.in_ok-core.core.0 c.in_ok-core.ensures.kept (sym c.may_have.ensures ∙ c.if-may_have.false)

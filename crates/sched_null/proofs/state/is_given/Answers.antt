use Rattle.std.proofs.Common.{sym, ◌∙◌}
use Rattle.sched_null.proofs.Coming.{taken_where}
use Rattle.sched_null.proofs.state.is_given.Goals as goal

pub returns-in-Some : goal.returns-in-Some
returns-in-Some c =
    let u = c.args.units.now in
    c.may_have.ensures ∙ sym (taken_where u.queue u.affinity c.args.kept.now c.args.home.0 c.args.core.0 c.in-Some.w (sym c.at.ensures ∙ c.in-Some.is))

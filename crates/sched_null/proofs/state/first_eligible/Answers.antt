use Rattle.std.proofs.Common.{sym, ◌∙◌}
use Rattle.sched_null.proofs.Choosing.{first_of_placed, given_to_kept}
use Rattle.sched_null.proofs.state.first_eligible.Goals as goal

pub returns : goal.returns
returns c =
    let at = sym c.at.ensures ∙ c.in-Some.is in
    let placed = given_to_kept c.args.units.now c.args.kept.now c.args.home.0 c.args.core.0 c.in-Some.w at (sym c.may_have.ensures ∙ c.if-may_have.true) in
    c.if_waits.ensures ∙ sym (first_of_placed c.args.units.now c.args.kept.now c.args.home.0 c.args.core.0 c.in-Some.w at placed)

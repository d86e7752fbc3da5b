use Rattle.std.proofs.Common.{sym, ◌∙◌}
use Rattle.std.specs.Prelude.{Some}
use Rattle.sched_print.specs.Forms as form
use Rattle.sched_print.proofs.Steps.{after_unit}
use Rattle.sched_print.proofs.read.decide_unit.Goals as goal

pub returns : goal.returns
returns c =
    c.decide_due.ensures ∙ sym (after_unit (λ u. form.decide_due c.args.r (Some u) (form.entry c.args.at.0)) c.args.bytes.now c.in_ok-u.u c.in_ok-u.rest.now c.in_ok-u.ensures)

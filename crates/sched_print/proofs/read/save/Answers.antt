use Rattle.std.proofs.Common.{sym, ◌∙◌}
use Rattle.sched_base.specs.Numbers.{core}
use Rattle.sched_print.specs.Forms as form
use Rattle.sched_print.proofs.Steps.{after_unit}
use Rattle.sched_print.proofs.read.save.Goals as goal

pub returns : goal.returns
returns c =
    rw (c.in_ok-rest.ensures, c.in_ok-r.ensures)
    (c.save_end.ensures ∙ sym (after_unit (λ u. form.save_end (core c.in_ok-r.r) u (form.entry c.args.at.0)) c.in_ok-r.rest.now c.in_ok-u.u c.in_ok-u.rest.now c.in_ok-u.ensures))

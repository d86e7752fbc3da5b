use Rattle.std.proofs.Common.{ap, ◌∙◌}
use Rattle.sched_print.specs.Readers.{end_at}
use Rattle.sched_print.proofs.read_answers.frame_long.Goals as goal

pub returns : goal.returns
returns c =
    rw (c.in_ok-rest.ensures, c.in_ok-sum.ensures.value, c.in_ok-rest-2.ensures, c.in_ok-major.ensures.value)
    (c.end.ensures ∙ ap (λ e. end_at e c.in_ok-major.rest.now) c.refused.ensures)

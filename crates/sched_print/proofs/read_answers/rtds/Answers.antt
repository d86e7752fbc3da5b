use Rattle.std.proofs.Common.{ap, ◌∙◌}
use Rattle.std.specs.Prelude.{codes}
use Rattle.sched_print.specs.Readers.{Word, Done, read}
use Rattle.sched_print.proofs.Steps.{joined}
use Rattle.sched_print.proofs.read_answers.rtds.Goals as goal

pub returns : goal.returns
returns c =
    rw (c.in_ok-rest.ensures, c.in_ok-period.ensures.value, c.in_ok-rest-2.ensures, c.in_ok-budget.ensures.value, c.in_ok-rest-3.ensures)
    (joined c.better.ensures
    (c.closing.ensures ∙ ap (λ e. read (Word (codes "0") (Done e)) c.in_ok-rest-3.rest.now) c.answered.ensures)
    (c.closing-2.ensures ∙ ap (λ e. read (Word (codes "1") (Done e)) c.in_ok-rest-3.rest.now) c.answered-2.ensures))

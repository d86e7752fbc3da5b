use Rattle.sched_print.proofs.Steps.{joined}
use Rattle.sched_print.proofs.read_answers.range.Goals as goal

pub returns : goal.returns
returns c =
    rw c.in_ok-rest.ensures
    (joined c.better.ensures c.range_of-6.ensures
    (joined c.better-last-5.ensures c.range_of-5.ensures
    (joined c.better-last-4.ensures c.range_of-4.ensures
    (joined c.better-last-3.ensures c.range_of-3.ensures
    (joined c.better-last-2.ensures c.range_of-2.ensures
    (joined c.better-last.ensures c.range_of.ensures c.range_of-last.ensures))))))

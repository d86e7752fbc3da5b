use Rattle.sched_examples.proofs.NumbersRuns.{resets_at_once-at_zero, resets_at_once-short_of_two, resets_at_once-two, resets_at_once-three}
use Rattle.sched_examples.proofs.numbers.resets_at_once.Goals as goal

pub returns-clause-at_zero : goal.returns-clause-at_zero
returns-clause-at_zero c = resets_at_once-at_zero

pub returns-clause-short_of_two : goal.returns-clause-short_of_two
returns-clause-short_of_two c = resets_at_once-short_of_two

pub returns-clause-two : goal.returns-clause-two
returns-clause-two c = resets_at_once-two

pub returns-clause-three : goal.returns-clause-three
returns-clause-three c = resets_at_once-three

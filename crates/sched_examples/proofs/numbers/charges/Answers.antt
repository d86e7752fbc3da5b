use Rattle.sched_examples.proofs.NumbersRuns.{charges-first_credit, charges-first_rest, charges-second_credit, charges-second_rest, charges-third_credit, charges-third_rest}
use Rattle.sched_examples.proofs.numbers.charges.Goals as goal

pub returns-clause-first_credit : goal.returns-clause-first_credit
returns-clause-first_credit c = charges-first_credit

pub returns-clause-first_rest : goal.returns-clause-first_rest
returns-clause-first_rest c = charges-first_rest

pub returns-clause-second_credit : goal.returns-clause-second_credit
returns-clause-second_credit c = charges-second_credit

pub returns-clause-second_rest : goal.returns-clause-second_rest
returns-clause-second_rest c = charges-second_rest

pub returns-clause-third_credit : goal.returns-clause-third_credit
returns-clause-third_credit c = charges-third_credit

pub returns-clause-third_rest : goal.returns-clause-third_rest
returns-clause-third_rest c = charges-third_rest

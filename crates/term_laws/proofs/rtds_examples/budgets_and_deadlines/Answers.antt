use Rattle.term_laws.proofs.RtdsExamplesComputed.{first_of_two, second_of_two, legs_of_first}
use Rattle.term_laws.proofs.rtds_examples.budgets_and_deadlines.Goals as goal

pub returns-clause-first : goal.returns-clause-first
returns-clause-first c = first_of_two

pub returns-clause-second : goal.returns-clause-second
returns-clause-second c = second_of_two

pub returns-clause-legs : goal.returns-clause-legs
returns-clause-legs c = legs_of_first

use Rattle.term_laws.proofs.RtdsExamplesComputed.{budget_from_the_next_term}
use Rattle.term_laws.proofs.rtds_examples.budget_of_the_next_term.Goals as goal

pub returns : goal.returns
returns c = budget_from_the_next_term

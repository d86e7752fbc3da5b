use Rattle.term_laws.proofs.CapExamplesComputed.{both_share}
use Rattle.term_laws.proofs.caps_examples.budget_is_shared.Goals as goal

pub returns : goal.returns
returns c = both_share

use Rattle.term_laws.proofs.CapExamplesComputed.{held_at_refill}
use Rattle.term_laws.proofs.caps_examples.held_over_a_refill.Goals as goal

pub returns : goal.returns
returns c = held_at_refill

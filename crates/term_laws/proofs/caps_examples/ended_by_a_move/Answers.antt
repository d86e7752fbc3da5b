use Rattle.term_laws.proofs.CapExamplesComputed.{moves_on, legs_of_both_pools}
use Rattle.term_laws.proofs.caps_examples.ended_by_a_move.Goals as goal

pub returns-clause-terms : goal.returns-clause-terms
returns-clause-terms c = moves_on

pub returns-clause-legs : goal.returns-clause-legs
returns-clause-legs c = legs_of_both_pools

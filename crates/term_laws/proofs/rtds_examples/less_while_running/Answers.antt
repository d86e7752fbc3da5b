use Rattle.term_laws.proofs.RtdsExamplesComputed.{less_while_running, legs_while_running}
use Rattle.term_laws.proofs.rtds_examples.less_while_running.Goals as goal

pub returns-clause-terms : goal.returns-clause-terms
returns-clause-terms c = less_while_running

pub returns-clause-legs : goal.returns-clause-legs
returns-clause-legs c = legs_while_running

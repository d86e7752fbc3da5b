use Rattle.term_laws.proofs.RtdsExamplesComputed.{runs_longer}
use Rattle.term_laws.proofs.rtds_examples.longer_by_what_was_late.Goals as goal

pub returns : goal.returns
returns c = runs_longer

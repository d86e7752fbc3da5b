use Rattle.term_laws.proofs.RtdsExamplesComputed.{begins_late}
use Rattle.term_laws.proofs.rtds_examples.term_that_begins_late.Goals as goal

pub returns : goal.returns
returns c = begins_late

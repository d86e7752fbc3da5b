use Rattle.term_laws.proofs.CapExamplesComputed.{overruns}
use Rattle.term_laws.proofs.caps_examples.longer_by_what_was_late.Goals as goal

pub returns : goal.returns
returns c = overruns

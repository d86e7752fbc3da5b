use Rattle.term_laws.proofs.CapExamplesComputed.{refilled_first}
use Rattle.term_laws.proofs.caps_examples.set_after_its_end.Goals as goal

pub returns : goal.returns
returns c = refilled_first

use Rattle.term_laws.proofs.CapExamplesComputed.{set_late}
use Rattle.term_laws.proofs.caps_examples.ended_by_a_setting.Goals as goal

pub returns : goal.returns
returns c = set_late

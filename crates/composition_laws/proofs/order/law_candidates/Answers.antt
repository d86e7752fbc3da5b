use Rattle.composition_laws.proofs.Candidates.{is_candidate}
use Rattle.composition_laws.proofs.order.law_candidates.Goals as goal

pub returns : goal.returns
returns c m checked entries run t action on = is_candidate m checked entries run t action on

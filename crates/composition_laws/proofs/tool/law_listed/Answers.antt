use Rattle.composition_laws.proofs.Moving.{lists_names}
use Rattle.composition_laws.proofs.tool.law_listed.Goals as goal

pub returns : goal.returns
returns c m checked entries run t = lists_names m checked entries run t

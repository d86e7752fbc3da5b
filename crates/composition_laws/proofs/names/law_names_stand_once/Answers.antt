use Rattle.composition_laws.proofs.NamesLaw.{names_stand_once}
use Rattle.composition_laws.proofs.names.law_names_stand_once.Goals as goal

pub returns : goal.returns
returns c m checked entries run = names_stand_once m checked entries run

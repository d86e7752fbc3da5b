use Rattle.composition_laws.proofs.MoveLaw.{has_one_move}
use Rattle.composition_laws.proofs.tool.law_one_move.Goals as goal

pub returns : goal.returns
returns c m checked entries run = has_one_move m checked entries run

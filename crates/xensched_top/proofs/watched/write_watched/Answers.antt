use Rattle.xensched_top.proofs.WritesLemmas.{writes_nothing}
use Rattle.xensched_top.proofs.watched.write_watched.Goals as goal

pub returns-in-Err-clause-written : goal.returns-in-Err-clause-written
returns-in-Err-clause-written g c = writes_nothing _ _ _ _ _ _ _ _

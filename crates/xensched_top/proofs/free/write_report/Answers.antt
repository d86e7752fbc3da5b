use Rattle.xensched_top.proofs.WritesLemmas.{writes_nothing}
use Rattle.xensched_top.proofs.free.write_report.Goals as goal

pub returns-in-Err-clause-written : goal.returns-in-Err-clause-written
returns-in-Err-clause-written g c = writes_nothing _ _ _ _ _ _ _ _

pub returns-in-Err-make_run-clause-written : goal.returns-in-Err-make_run-clause-written
returns-in-Err-make_run-clause-written g c = writes_nothing _ _ _ _ _ _ _ _

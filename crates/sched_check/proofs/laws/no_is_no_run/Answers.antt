use Rattle.sched_check.proofs.NoRun.{no_is_no_run}
use Rattle.sched_check.proofs.laws.no_is_no_run.Goals as goal

pub returns : goal.returns
returns c = no_is_no_run

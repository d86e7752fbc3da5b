use Rattle.sched_model.specs.Opening.{opening}
use Rattle.sched_model.proofs.RunLemmas.{ordered_run-IsRunFrom}
use Rattle.run_laws.proofs.Grows.{ordered_run-over}
use Rattle.run_laws.proofs.laws.law_ordered_run.Goals as goal

pub returns-clause-run : goal.returns-clause-run
returns-clause-run c m most = ordered_run-IsRunFrom most m (opening m)

pub returns-clause-whole : goal.returns-clause-whole
returns-clause-whole c m most over = (ordered_run-IsRunFrom most m (opening m), over)

pub returns-clause-fewer : goal.returns-clause-fewer
returns-clause-fewer c m most short = (ordered_run-IsRunFrom most m (opening m), ordered_run-over most m (opening m) short)

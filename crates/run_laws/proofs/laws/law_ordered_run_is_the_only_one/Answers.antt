use Rattle.sched_model.specs.Opening.{opening}
use Rattle.run_laws.proofs.Ordered.{ordered-is_run_by, run_by-is_ordered, ordered_run-take, ordered_run-more}
use Rattle.run_laws.proofs.laws.law_ordered_run_is_the_only_one.Goals as goal

pub returns-clause-only : goal.returns-clause-only
returns-clause-only c m entries = (ordered-is_run_by m entries, run_by-is_ordered m entries)

pub returns-clause-beginning : goal.returns-clause-beginning
returns-clause-beginning c m most more = ordered_run-take most more m (opening m)

pub returns-clause-over : goal.returns-clause-over
returns-clause-over c m most more short = ordered_run-more most more m (opening m) short

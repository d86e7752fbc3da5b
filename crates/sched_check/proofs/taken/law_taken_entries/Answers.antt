use Rattle.sched_model.specs.Runs.{run_start}
use Rattle.std.proofs.Common.{true, false}
use Rattle.sched_check.proofs.TakenLemmas.{taken-run, run-taken, taken-ordered, ordered-taken, taken-before, taken-last, taken-more}
use Rattle.sched_check.proofs.taken.law_taken_entries.Goals as goal

pub returns-clause-runs : goal.returns-clause-runs
returns-clause-runs c = λ m entries. (taken-run m false (run_start m) entries, run-taken m (run_start m) entries)

pub returns-clause-ordered : goal.returns-clause-ordered
returns-clause-ordered c = λ m entries.
    (λ taken. record { run = taken-run m true (run_start m) entries taken; ordered = taken-ordered m (run_start m) entries taken }, λ run. ordered-taken m (run_start m) entries run.run run.ordered)

pub returns-clause-whole : goal.returns-clause-whole
returns-clause-whole c = λ m ordered entries taken over. (taken-run m ordered (run_start m) entries taken, over)

pub returns-clause-one_more : goal.returns-clause-one_more
returns-clause-one_more c = λ m ordered entries entry.
    (λ taken. record { before = taken-before m ordered (run_start m) entries entry taken; last = taken-last m ordered (run_start m) entries entry taken }, λ more. taken-more m ordered (run_start m) entries entry more.before more.last)

use Rattle.moment_laws.proofs.ExamplesComputed.{windows_stretches, windows_sums, windows_most, windows_moment, windows_run, windows_limit, windows_by_causes}
use Rattle.moment_laws.proofs.examples.windows.Goals as goal

pub returns-clause-stretches : goal.returns-clause-stretches
returns-clause-stretches c = windows_stretches

pub returns-clause-sums : goal.returns-clause-sums
returns-clause-sums c = windows_sums

pub returns-clause-most : goal.returns-clause-most
returns-clause-most c = windows_most

pub returns-clause-moment : goal.returns-clause-moment
returns-clause-moment c = windows_moment

pub returns-clause-run : goal.returns-clause-run
returns-clause-run c = windows_run

pub returns-clause-limit : goal.returns-clause-limit
returns-clause-limit c = windows_limit

pub returns-clause-by_causes : goal.returns-clause-by_causes
returns-clause-by_causes c = windows_by_causes

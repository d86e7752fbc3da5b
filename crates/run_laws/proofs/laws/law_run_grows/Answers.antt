use Rattle.run_laws.proofs.Grows.{run-goes_on, goes_on-run, run-beginning}
use Rattle.run_laws.proofs.laws.law_run_grows.Goals as goal

pub returns-clause-grows : goal.returns-clause-grows
returns-clause-grows c m entries entry = (run-goes_on m entries entry, goes_on-run m entries entry)

pub returns-clause-beginnings : goal.returns-clause-beginnings
returns-clause-beginnings c m first rest run = run-beginning m first rest run

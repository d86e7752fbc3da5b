use Rattle.reservation_laws.proofs.ExamplesComputed.{whole_core_fits, first_of_whole_core, second_of_whole_core}
use Rattle.reservation_laws.proofs.examples.whole_budgets.Goals as goal

pub returns-clause-fits : goal.returns-clause-fits
returns-clause-fits c = whole_core_fits

pub returns-clause-first : goal.returns-clause-first
returns-clause-first c = first_of_whole_core

pub returns-clause-second : goal.returns-clause-second
returns-clause-second c = second_of_whole_core

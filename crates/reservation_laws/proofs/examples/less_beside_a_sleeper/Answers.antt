use Rattle.reservation_laws.proofs.ExamplesComputed.{sleeper_fits, claimed_with_sleeper, beside_sleeper}
use Rattle.reservation_laws.proofs.examples.less_beside_a_sleeper.Goals as goal

pub returns-clause-fits : goal.returns-clause-fits
returns-clause-fits c = sleeper_fits

pub returns-clause-claimed : goal.returns-clause-claimed
returns-clause-claimed c = claimed_with_sleeper

pub returns-clause-steady : goal.returns-clause-steady
returns-clause-steady c = beside_sleeper

use Rattle.reservation_laws.proofs.ExamplesComputed.{claimed_with_room, with_room}
use Rattle.reservation_laws.proofs.examples.whole_budget_beside_a_sleeper.Goals as goal

pub returns-clause-claimed : goal.returns-clause-claimed
returns-clause-claimed c = claimed_with_room

pub returns-clause-steady : goal.returns-clause-steady
returns-clause-steady c = with_room

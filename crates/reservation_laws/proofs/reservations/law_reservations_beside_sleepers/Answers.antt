use Rattle.reservation_laws.proofs.Reserved.{gets_budget}
use Rattle.reservation_laws.proofs.reservations.law_reservations_beside_sleepers.Goals as goal

pub returns : goal.returns
returns c m checked i rtds u has entries run home = gets_budget m checked (λ s. c.law_next_moment.ensures m s s.now) i rtds u has entries run home

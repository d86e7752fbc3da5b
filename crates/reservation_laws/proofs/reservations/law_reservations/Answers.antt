use Rattle.reservation_laws.proofs.Feasible.{gets_each_budget}
use Rattle.reservation_laws.proofs.reservations.law_reservations.Goals as goal

pub returns : goal.returns
returns c m checked i feasible entries run u home = gets_each_budget m checked (λ s. c.law_next_moment.ensures m s s.now) i feasible entries run u home

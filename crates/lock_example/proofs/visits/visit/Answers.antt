use Rattle.lock_moves.specs.SeatSight.{after_search}
use Rattle.lock_example.proofs.Visiting.{taken-known, put_back}
use Rattle.lock_example.proofs.visits.visit.Goals as goal

pub unlock-requires-clause-known : goal.unlock-requires-clause-known
unlock-requires-clause-known g c = let t = c.lock_of-held.ensures.taken in let s = c.args.seat.now in
    taken-known c.lock_of-held.result.lock _ (after_search t.0 t.1 s.view) s c.lock_of-held.new.seat t.2

pub returns-clause-back : goal.returns-clause-back
returns-clause-back g c = let t = c.lock_of-held.ensures.taken in put_back c.args.seat.now c.lock_of-held.result.lock _ t.0 t.1 c.lock_of-held.new.seat _ t.2 c.unlock.ensures

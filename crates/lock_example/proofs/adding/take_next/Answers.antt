use Rattle.lock_moves.proofs.Holding.{taken_below}
use Rattle.lock_example.proofs.adding.take_next.Goals as goal

pub returns-clause-below : goal.returns-clause-below
returns-clause-below g c = let t = c.lock.ensures.taken in taken_below t.0 c.args.lock _ c.args.seat.now c.lock.new.seat t.1 c.requires.below

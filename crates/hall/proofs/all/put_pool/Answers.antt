use Rattle.std.proofs.Common.{◌≡◌, ℕ, subst}
use Rattle.lock_moves.specs.SeatSight.{after_give}
use Rattle.lock_moves.specs.Sets.{sitting_with}
use Rattle.hall.proofs.Locking.{gave_below, gave_still}
use Rattle.hall.proofs.all.put_pool.Goals as goal

pub returns-clause-below : goal.returns-clause-below
returns-clause-below c = let old = c.args.seat.now in let new = c.unlock.new.seat in
    gave_below c.args.place old new (subst (λ (k : ℕ). new ≡ sitting_with old (after_give k old.view)) c.new.ensures.lock c.unlock.ensures) c.requires.below

pub returns-clause-still : goal.returns-clause-still
returns-clause-still c = let old = c.args.seat.now in let new = c.unlock.new.seat in
    gave_still c.args.place old new (subst (λ (k : ℕ). new ≡ sitting_with old (after_give k old.view)) c.new.ensures.lock c.unlock.ensures)

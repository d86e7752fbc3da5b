use Rattle.std.proofs.Common.{◌≡◌, ℕ, subst}
use Rattle.lock_moves.specs.Sets.{sitting_with}
use Rattle.lock_moves.specs.SeatSight.{after_give}
use Rattle.hall.proofs.Holds.{gone-only}
use Rattle.hall.proofs.Locking.{gave_keeps}
use Rattle.hall.proofs.hall.Hall.end_hold.Goals as goal

pub returns-clause-keeps : goal.returns-clause-keeps
returns-clause-keeps c = gave_keeps c.new.result.lock c.args.seat.now c.unlock.new.seat c.unlock.ensures

pub returns-clause-nothing : goal.returns-clause-nothing
returns-clause-nothing c =
    let s = c.args.seat.now in
    gone-only c.args.hold.lock.0 s c.unlock.new.seat c.requires.only
    (subst (λ (k : ℕ). c.unlock.new.seat ≡ sitting_with s (after_give k s.view)) c.new.ensures.lock c.unlock.ensures)

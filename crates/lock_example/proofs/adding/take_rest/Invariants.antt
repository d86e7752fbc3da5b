use Rattle.std.proofs.Common.{◌≡◌, ◌+◌, ◌≤◌, [], length, vec_capacity}
use Rattle.lock_moves.specs.SeatSight.{HoldsBelow}
use Rattle.lock_example.specs.Holders.{AreFrom, Stands}
use Rattle.lock_example.proofs.adding.take_rest.Given as goal

abbrev pub invariant-loop-lock : goal.invariant-loop-lock
invariant-loop-lock g l = Stands l.set [] l.initial.seat.view.shares l.seat × HoldsBelow l.lock l.seat.view × (length l.held.items + 1 ≡ l.lock) × AreFrom 1 l.held.items × (16 ≤ vec_capacity l.held)

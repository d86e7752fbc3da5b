use Rattle.std.proofs.Common.{◌+◌, ◌≤◌, length}
use Rattle.lock_moves.specs.SeatSight.{KnowsBelow}
use Rattle.lock_example.specs.Example.{adding_machine, two_entries}
use Rattle.lock_example.specs.Holders.{AreFrom, Stands}
use Rattle.lock_example.proofs.adding.put_rest.Given as goal

abbrev pub decreases-loop-last : goal.decreases-loop-last
decreases-loop-last l = length l.held.items

abbrev pub invariant-loop-last : goal.invariant-loop-last
invariant-loop-last l = Stands l.set two_entries l.initial.seat.view.shares l.seat × (length l.held.items ≤ 16) × AreFrom 1 l.held.items × KnowsBelow adding_machine (1 + length l.held.items) two_entries l.seat.view

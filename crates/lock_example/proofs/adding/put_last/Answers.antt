use Rattle.std.proofs.Common.{sym, subst, ◌∙◌, arith}
use Rattle.lock_moves.specs.SeatSight.{Sitting, KnowsBelow}
use Rattle.lock_example.specs.Example.{adding_machine, two_entries, part_after}
use Rattle.lock_example.proofs.Checks.{once-third}
use Rattle.lock_moves.proofs.Holding.{known_current, knows_less}
use Rattle.lock_example.proofs.adding.put_last.Goals as goal

pub unlock-requires-clause-known : goal.unlock-requires-clause-known
unlock-requires-clause-known c = let k = c.args.held.lock in let e = c.new.ensures in
    known_current adding_machine two_entries k _ c.args.seat.now.view once-third c.requires.number (λ i. part_after ((e.lock ∙ c.lock-lock.ensures) i) (e.count i)) (c.requires.below.knows k (omega arith))

pub returns-clause-below : goal.returns-clause-below
returns-clause-below c = let k = c.args.held.lock in
    subst (λ (s : Sitting). KnowsBelow adding_machine k two_entries s.view) (sym c.unlock.ensures) (knows_less adding_machine k two_entries c.args.seat.now.view c.requires.below)

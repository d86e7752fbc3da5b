use Rattle.std.proofs.Common.{sym, subst}
use Rattle.lock_moves.specs.SeatSight.{Sitting}
use Rattle.hall.specs.Steps.{KeepsLocks}
use Rattle.hall.proofs.Entering.{keeps-committed}
use Rattle.hall.proofs.book.put_book.Goals as goal

pub returns-clause-locks : goal.returns-clause-locks
returns-clause-locks c =
    subst (λ (s : Sitting). KeepsLocks c.args.seat.now.view s.view) (sym c.commit.ensures) (keeps-committed c.args.book.history c.args.seat.now.view c.requires.current c.requires.has.front)

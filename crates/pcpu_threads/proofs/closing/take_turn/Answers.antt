use Rattle.std.proofs.Common.{sym, subst}
use Rattle.std.specs.Prelude.{Option, IfSome}
use Rattle.pcpu_threads.specs.declared.ends.RunEnd.{RunEnd}
use Rattle.pcpu_threads.specs.Ends.{IsEnded, book_seen}
use Rattle.pcpu_threads.proofs.Turning.{closes-said, ended-said}
use Rattle.pcpu_threads.proofs.closing.take_turn.Goals as goal

pub returns-clause-closes : goal.returns-clause-closes
returns-clause-closes g c = let e = c.close_or_step.ensures in closes-said c.args.seat.now c.close_or_step.new.seat e.stays c.close_or_step.result e.turn e.full

pub returns-clause-ended : goal.returns-clause-ended
returns-clause-ended g c =
    let e = c.close_or_step.ensures in
    let new = c.close_or_step.new.seat in
    subst (λ (o : Option RunEnd). IfSome o (λ end. IsEnded end (book_seen new.sitting.view))) (sym c.end_of.ensures) (ended-said c.args.seat.now new e.stays c.close_or_step.result e.turn e.full)

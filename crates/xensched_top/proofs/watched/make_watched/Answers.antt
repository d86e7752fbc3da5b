use Rattle.std.proofs.Common.{false, IfOk, ap, subst, sym}
use Rattle.journal_core.specs.Books.{Chronicle}
use Rattle.pcpu_watch.specs.Looks.{AreLooks}
use Rattle.pcpu_watch.specs.WatchedRun.{IsWatched, end_of}
use Rattle.xensched_top.specs.Ends.{HasEnded}
use Rattle.xensched_top.proofs.WatchLemmas.{watched_ends, watched_looks}
use Rattle.xensched_top.proofs.watched.make_watched.Goals as goal

pub returns-in-Ok-clause-ends : goal.returns-in-Ok-clause-ends
returns-in-Ok-clause-ends g c =
    let watched : IsWatched c.in_ok-hall.hall.opened c.in-Ok.book (end_of c.in-Ok.field-0-1) c.in-Ok.field-0-2.items =
    subst (λ o. IfOk o (λ r. IsWatched c.in_ok-hall.hall.opened r.0 (end_of r.1) r.2.items)) c.in-Ok.is c.watch_run-watched.ensures in
    subst (λ o. IfOk o (λ r. HasEnded r.1 false c.args.limit c.args.machine.now r.0.history)) (sym c.in-Ok.is)
    (watched_ends c.args.limit c.args.machine.now c.in_ok-hall.hall.opened c.in-Ok.book c.in-Ok.field-0-1 c.in-Ok.field-0-2.items
    (ap (λ (b : Chronicle). b.input) c.in_ok-hall.ensures.opened) (ap (λ (b : Chronicle). b.limit) c.in_ok-hall.ensures.opened) c.tell.ensures.fits watched)

pub returns-in-Ok-clause-looks : goal.returns-in-Ok-clause-looks
returns-in-Ok-clause-looks g c =
    let watched : IsWatched c.in_ok-hall.hall.opened c.in-Ok.book (end_of c.in-Ok.field-0-1) c.in-Ok.field-0-2.items =
    subst (λ o. IfOk o (λ r. IsWatched c.in_ok-hall.hall.opened r.0 (end_of r.1) r.2.items)) c.in-Ok.is c.watch_run-watched.ensures in
    subst (λ o. IfOk o (λ r. AreLooks r.0.history r.2.items)) (sym c.in-Ok.is)
    (watched_looks c.in_ok-hall.hall.opened c.in-Ok.book c.in-Ok.field-0-1 c.in-Ok.field-0-2.items watched)

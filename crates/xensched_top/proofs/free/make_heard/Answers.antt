use Rattle.std.proofs.Common.{◌∙◌, false, ap, subst, sym}
use Rattle.journal_core.specs.Books.{Chronicle}
use Rattle.xensched_top.specs.Ends.{HasEnded}
use Rattle.xensched_top.specs.Entries.{Coming}
use Rattle.xensched_top.proofs.FreeLemmas.{free_ends}
use Rattle.xensched_top.proofs.free.make_heard.Goals as goal

pub returns-in-Ok-clause-run : goal.returns-in-Ok-clause-run
returns-in-Ok-clause-run g c =
    let book : Chronicle = c.run_heard-book.result.0 in
    let e = c.run_heard-book.ensures in
    record {
      history = book.history;
      ended = subst (λ (v : Coming). HasEnded v.end false c.args.limit c.args.machine.now book.history) (sym c.behind.ensures)
          (free_ends c.args.limit c.args.machine.now book c.run_heard-book.result.1 (e.input ∙ ap (λ (b : Chronicle). b.input) c.in_ok-hall.ensures.opened) (e.limit ∙ ap (λ (b : Chronicle). b.limit) c.in_ok-hall.ensures.opened)
          c.tell.ensures.run c.tell.ensures.fits e.finished e.full);
      count = c.run_heard-book.result.2;
      rest_is = ap (λ (v : Coming). v.entries) c.behind.ensures;
      puts = e.heard c.requires.fine;
    }

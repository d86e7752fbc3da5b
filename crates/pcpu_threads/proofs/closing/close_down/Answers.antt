use mathlib.Core.List.{IsPrefix}
use Rattle.std.proofs.Common.{◌≡◌, ◌∙◌, List, sym, subst}
use Rattle.sched_model.specs.declared.event.Entry.{Entry}
use Rattle.sched_model.specs.declared.machine.Machine.{Machine}
use Rattle.run_laws.specs.RunLaws.{IsOrderedRun}
use Rattle.journal_core.specs.Books.{Chronicle}
use Rattle.pcpu_threads.specs.Ends.{IsEnded, book_seen}
use Rattle.pcpu_threads.proofs.Turning.{book-is}
use Rattle.pcpu_threads.proofs.Counting.{of-stays}
use Rattle.pcpu_threads.proofs.closing.close_down.Goals as goal

pub end-requires-clause-of : goal.end-requires-clause-of
end-requires-clause-of g c = of-stays c.args.hall c.args.seat c.close_all-end.new.seat c.requires.of c.close_all-end.ensures.closes.stays

pub end-requires-clause-only : goal.end-requires-clause-only
end-requires-clause-only g c = c.close_all-end.ensures.closes.stays.shares ∙ c.requires.all

pub returns : goal.returns
returns g c =
    let old = c.args.seat.sitting.view in
    let v = c.close_all-end.new.seat.sitting.view in
    let book = c.end.result in
    let e = c.end.ensures in
    let closes = c.close_all-end.ensures.closes in
    let is : book ≡ book_seen v = book-is book (book_seen v) e.input e.limit e.history in
    let ended : IsEnded c.close_all-end.result book = subst (IsEnded c.close_all-end.result) (sym is) c.close_all-end.ensures.ended in
    record {
      input = e.input ∙ closes.stays.input ∙ c.requires.of.input;
      limit = e.limit ∙ closes.stays.limit ∙ c.requires.of.limit;
      begins = subst (λ (h : List Entry). IsPrefix old.front h) (sym e.history) closes.begins;
      run = ended.run;
      ordered = λ o. subst (λ (b : Chronicle). IsOrderedRun b.input b.history) (sym is) (closes.ordered c.requires.all (subst (λ (q : Machine). IsOrderedRun q old.front) (e.input ∙ closes.stays.input) o));
      finished = ended.finished;
      full = ended.full;
    }

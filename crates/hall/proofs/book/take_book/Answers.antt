use Rattle.std.proofs.Common.{sym, ap, ◌∙◌}
use Rattle.lock_moves.specs.SeatSight.{Seen, Sitting, book_known, find_lock}
use Rattle.lock_moves.proofs.Finding.{find-head}
use Rattle.hall.proofs.book.take_book.Goals as goal

pub returns-clause-has : goal.returns-clause-has
returns-clause-has g c =
    let t = c.take_book.ensures.taken in
    let old : Seen = c.args.seat.now.view in
    record {
      table = ap (λ (s : Sitting). s.table) t.2 ∙ c.requires.set;
      holds = (book_known, ap (λ (s : Sitting). find_lock 17 s.view.held) t.2 ∙ find-head 17 book_known old.held);
      input = c.take_book.ensures.input ∙ sym (ap (λ (s : Sitting). s.view.input) t.2);
      limit = c.take_book.ensures.limit ∙ sym (ap (λ (s : Sitting). s.view.limit) t.2);
      front = ap (λ (s : Sitting). s.view.front) t.2;
      nobody = c.take_book.ensures.current.2;
    }

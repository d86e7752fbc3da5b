use Rattle.std.proofs.Common.{◌≡◌, ◌∙◌, List, drop, take, sym, ap}
use Rattle.std.specs.Prelude.{vec_capacity}
use Rattle.sched_model.specs.declared.event.Entry.{Entry}
use Rattle.journal_core.specs.Books.{Chronicle}
use Rattle.hall.proofs.Reading.{free-read, front-read}
use Rattle.hall.proofs.hall.Hall.entries.Goals as goal

pub invariant_of-seat : goal.invariant_of-seat
invariant_of-seat g c =
    free-read c.take_book-book.result c.seat.inside.seat c.take_book-book.new.seat c.put_book.new.seat c.seat.inside.arrived c.seat.invariant c.take_book-book.ensures.sees c.take_book-book.ensures.locks c.put_book.ensures.keeps c.put_book.ensures.locks

pub returns-clause-found : goal.returns-clause-found
returns-clause-found g c =
    let front : c.put_book.new.seat.view.front ≡ c.take_book-book.result.history = front-read c.take_book-book.result c.seat.inside.seat c.take_book-book.new.seat c.put_book.new.seat c.take_book-book.ensures.sees c.put_book.ensures.keeps in
    let read : List Entry → List Entry = λ h. take (vec_capacity c.args.into.now) (drop c.args.from h) in
    c.copy_entries.ensures.found ∙ ap (λ (b : Chronicle). read b.history) c.get.ensures ∙ ap read (sym front)

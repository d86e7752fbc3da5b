use Rattle.std.proofs.Common.{◌≡◌, ◌∙◌, ℕ, List, length, slice_get, sym, ap, arith}
use Rattle.std.proofs.lemmas.Option.{slice_get_past}
use Rattle.sched_model.specs.declared.event.Entry.{Entry}
use Rattle.journal_core.specs.Books.{Chronicle}
use Rattle.hall.proofs.Reading.{free-read, front-read}
use Rattle.hall.proofs.hall.Hall.entry.Goals as goal
use Rattle.hall.proofs.hall.Hall.entry.Goals.{then-i-len, else-i-len}

pub invariant_of-seat : goal.invariant_of-seat
invariant_of-seat g c =
    free-read c.take_book-book.result c.seat.inside.seat c.take_book-book.new.seat c.put_book.new.seat c.seat.inside.arrived c.seat.invariant c.take_book-book.ensures.sees c.take_book-book.ensures.locks c.put_book.ensures.keeps c.put_book.ensures.locks

pub returns-clause-found : goal.returns-clause-found
returns-clause-found g c =
    let h : List Entry = c.take_book-book.result.history in
    let i : ℕ = c.args.i in
    let front : c.put_book.new.seat.view.front ≡ h = front-read c.take_book-book.result c.seat.inside.seat c.take_book-book.new.seat c.put_book.new.seat c.take_book-book.ensures.sees c.put_book.ensures.keeps in
    let found : c.if-i-len.found ≡ slice_get h i = elim c.if-i-len.branch [
      | then-i-len w ↦ w.found-is ∙ sym w.get-then-i-len-2.ensures ∙ ap (λ (b : Chronicle). slice_get b.history i) w.get-then-i-len.ensures
      | else-i-len w ↦ (let test = w.if-i-len.false in let size = c.len.ensures in let same = ap (λ (b : Chronicle). length b.history) c.get.ensures in w.found-is ∙ sym (slice_get_past h i (omega (arith, test, size, same))))
    ] in
    found ∙ ap (λ (xs : List Entry). slice_get xs i) (sym front)

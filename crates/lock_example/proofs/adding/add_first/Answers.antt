use Rattle.std.proofs.Common.{◌≡◌, List, [], ◌∷◌, ◌++◌, inr, take, sym, ap, ◌∙◌, arith}
use Rattle.sched_model.specs.declared.event.Entry.{Entry}
use Rattle.lock_moves.specs.SeatSight.{Seen, Sitting, HoldsBelow}
use Rattle.lock_example.specs.Example.{adding_machine, is_added, two_entries}
use Rattle.lock_example.proofs.Checks.{homes_first, now_first, decides_first, once-second}
use Rattle.lock_moves.proofs.Holding.{book_below, kept_all, placed_at, placed_of, decided_none, decided_of, once_of, knows_of}
use Rattle.lock_example.proofs.adding.add_first.Goals as goal

pub commit-requires-clause-held : goal.commit-requires-clause-held
commit-requires-clause-held g c = let t = c.take_book-book.ensures.taken in (book_below t.0 t.1 c.take_book-book.result.history c.args.seat.now c.take_book-book.new.seat t.2 c.requires.below).holds 17 (omega arith)

pub commit-requires-clause-next : goal.commit-requires-clause-next
commit-requires-clause-next g c = let t = c.take_book-book.ensures.taken in let w = c.if-not-write_first.ensures.written in
    let front : c.take_book-book.new.seat.view.front ≡ [] = ap (λ (s : Sitting). s.view.front) t.2 ∙ w.0 in
    inr (is_added, w.1 ∙ ap (λ (l : List Entry). l ++ is_added ∷ []) (sym front))

pub commit-requires-clause-kept : goal.commit-requires-clause-kept
commit-requires-clause-kept g c = let t = c.take_book-book.ensures.taken in kept_all c.write_first.new.book.history c.take_book-book.new.seat.view (book_below t.0 t.1 c.take_book-book.result.history c.args.seat.now c.take_book-book.new.seat t.2 c.requires.below)

pub commit-requires-clause-placed : goal.commit-requires-clause-placed
commit-requires-clause-placed g c = let t = c.take_book-book.ensures.taken in let v : Seen = c.take_book-book.new.seat.view in let w = c.if-not-write_first.ensures.written in
    placed_of v c.write_first.new.book.history (take 1 two_entries) w.1 (placed_at adding_machine [] (take 1 two_entries) v (ap (λ (s : Sitting). s.view.input) t.2 ∙ c.requires.stands.input) (ap (λ (s : Sitting). s.view.front) t.2 ∙ w.0) c.take_book-book.ensures.current homes_first now_first)

pub commit-requires-clause-decided : goal.commit-requires-clause-decided
commit-requires-clause-decided g c = let t = c.take_book-book.ensures.taken in let v : Seen = c.take_book-book.new.seat.view in let w = c.if-not-write_first.ensures.written in
    decided_of v c.write_first.new.book.history (take 1 two_entries) w.1 (decided_none [] (take 1 two_entries) v (ap (λ (s : Sitting). s.view.front) t.2 ∙ w.0) c.take_book-book.ensures.current.2 decides_first)

pub commit-requires-clause-names : goal.commit-requires-clause-names
commit-requires-clause-names g c =
    once_of c.write_first.new.book.input adding_machine c.write_first.new.book.history (take 1 two_entries) (c.write_first.ensures.input ∙ (c.take_book-book.ensures.input ∙ c.requires.stands.input)) c.if-not-write_first.ensures.written.1 once-second

pub returns-clause-below : goal.returns-clause-below
returns-clause-below g c = let t = c.take_book-book.ensures.taken in let v : Seen = c.take_book-book.new.seat.view in let w = c.if-not-write_first.ensures.written in
    let input : v.input ≡ adding_machine = ap (λ (s : Sitting). s.view.input) t.2 ∙ c.requires.stands.input in
    let all : HoldsBelow 18 v = book_below t.0 t.1 c.take_book-book.result.history c.args.seat.now c.take_book-book.new.seat t.2 c.requires.below in
    knows_of adding_machine c.write_first.new.book.history (take 1 two_entries) c.take_book-book.new.seat c.commit.new.seat c.commit.ensures w.1 input all
    (placed_at adding_machine [] (take 1 two_entries) v input (ap (λ (s : Sitting). s.view.front) t.2 ∙ w.0) c.take_book-book.ensures.current homes_first now_first)

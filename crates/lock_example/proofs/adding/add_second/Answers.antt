use Rattle.std.proofs.Common.{◌≡◌, ℕ, List, [], ◌∷◌, ◌++◌, inr, take, sym, ap, ◌∙◌, subst, arith}
use Rattle.sched_model.specs.declared.event.Entry.{Entry}
use Rattle.lock_moves.specs.SeatSight.{Seen, Sitting, Holds, moved_name, HoldsBelow}
use Rattle.lock_moves.specs.Plays.{Placed}
use Rattle.lock_moves.specs.Sets.{sitting_with, HasName}
use Rattle.lock_example.specs.Example.{adding_machine, has_moved, two_entries}
use Rattle.lock_example.proofs.Checks.{homes_second, home_before, home_after, now_second, decides_second, once-third}
use Rattle.lock_moves.proofs.Holding.{book_below, holds_known, kept_all, moved_holds, moved_placed, placed_of, decided_none, decided_of, once_of, knows_of, name_at_home}
use Rattle.lock_example.proofs.adding.add_second.Goals as goal

pub move_name-requires-clause-book : goal.move_name-requires-clause-book
move_name-requires-clause-book g c = let t = c.take_book-book.ensures.taken in
    (book_below t.0 t.1 c.take_book-book.result.history c.args.seat.now c.take_book-book.new.seat t.2 (holds_known adding_machine 17 (take 1 two_entries) c.args.seat.now.view c.requires.below)).holds 17 (omega arith)

pub move_name-requires-clause-from : goal.move_name-requires-clause-from
move_name-requires-clause-from g c = let t = c.take_book-book.ensures.taken in let v : Seen = c.take_book-book.new.seat.view in let w = c.if-not-write_second.ensures.written in
    subst (λ (k : ℕ). HasName k 1 v) (sym c.requires.tool)
    (name_at_home adding_machine (take 1 two_entries) 16 1 v (ap (λ (s : Sitting). s.view.input) t.2 ∙ c.requires.stands.input) (ap (λ (s : Sitting). s.view.front) t.2 ∙ w.0) (omega arith) (omega arith) home_before
    ((book_below t.0 t.1 c.take_book-book.result.history c.args.seat.now c.take_book-book.new.seat t.2 (holds_known adding_machine 17 (take 1 two_entries) c.args.seat.now.view c.requires.below)).holds 16 (omega arith)) c.take_book-book.ensures.current)

pub move_name-requires-clause-to : goal.move_name-requires-clause-to
move_name-requires-clause-to g c = let t = c.take_book-book.ensures.taken in let v : Seen = c.take_book-book.new.seat.view in
    subst (λ (k : ℕ). Holds k v) (sym c.requires.pool)
    ((book_below t.0 t.1 c.take_book-book.result.history c.args.seat.now c.take_book-book.new.seat t.2 (holds_known adding_machine 17 (take 1 two_entries) c.args.seat.now.view c.requires.below)).holds 0 (omega arith))

pub commit-requires-clause-held : goal.commit-requires-clause-held
commit-requires-clause-held g c = let t = c.take_book-book.ensures.taken in let v : Seen = c.take_book-book.new.seat.view in
    let all : HoldsBelow 18 v = book_below t.0 t.1 c.take_book-book.result.history c.args.seat.now c.take_book-book.new.seat t.2 (holds_known adding_machine 17 (take 1 two_entries) c.args.seat.now.view c.requires.below) in
    let is : c.move_name.new.seat ≡ sitting_with c.take_book-book.new.seat (moved_name 1 0 v) = c.move_name.ensures.view ∙ ap (λ (k : ℕ). sitting_with c.take_book-book.new.seat (moved_name 1 k v)) c.requires.pool in
    (subst (λ (s : Sitting). HoldsBelow 18 s.view) (sym is) (moved_holds 1 0 18 v all)).holds 17 (omega arith)

pub commit-requires-clause-next : goal.commit-requires-clause-next
commit-requires-clause-next g c = let t = c.take_book-book.ensures.taken in let w = c.if-not-write_second.ensures.written in
    let front : c.move_name.new.seat.view.front ≡ take 1 two_entries = ap (λ (s : Sitting). s.view.front) c.move_name.ensures.view ∙ (ap (λ (s : Sitting). s.view.front) t.2 ∙ w.0) in
    inr (has_moved, w.1 ∙ ap (λ (l : List Entry). l ++ has_moved ∷ []) (sym front))

pub commit-requires-clause-kept : goal.commit-requires-clause-kept
commit-requires-clause-kept g c = let t = c.take_book-book.ensures.taken in let v : Seen = c.take_book-book.new.seat.view in
    let all : HoldsBelow 18 v = book_below t.0 t.1 c.take_book-book.result.history c.args.seat.now c.take_book-book.new.seat t.2 (holds_known adding_machine 17 (take 1 two_entries) c.args.seat.now.view c.requires.below) in
    let is : c.move_name.new.seat ≡ sitting_with c.take_book-book.new.seat (moved_name 1 0 v) = c.move_name.ensures.view ∙ ap (λ (k : ℕ). sitting_with c.take_book-book.new.seat (moved_name 1 k v)) c.requires.pool in
    kept_all c.write_second.new.book.history c.move_name.new.seat.view (subst (λ (s : Sitting). HoldsBelow 18 s.view) (sym is) (moved_holds 1 0 18 v all))

pub commit-requires-clause-placed : goal.commit-requires-clause-placed
commit-requires-clause-placed g c = let t = c.take_book-book.ensures.taken in let v : Seen = c.take_book-book.new.seat.view in let w = c.if-not-write_second.ensures.written in
    let all : HoldsBelow 18 v = book_below t.0 t.1 c.take_book-book.result.history c.args.seat.now c.take_book-book.new.seat t.2 (holds_known adding_machine 17 (take 1 two_entries) c.args.seat.now.view c.requires.below) in
    let is : c.move_name.new.seat ≡ sitting_with c.take_book-book.new.seat (moved_name 1 0 v) = c.move_name.ensures.view ∙ ap (λ (k : ℕ). sitting_with c.take_book-book.new.seat (moved_name 1 k v)) c.requires.pool in
    let placed : Placed (moved_name 1 0 v) two_entries = moved_placed adding_machine 1 0 (take 1 two_entries) two_entries v (ap (λ (s : Sitting). s.view.input) t.2 ∙ c.requires.stands.input) (ap (λ (s : Sitting). s.view.front) t.2 ∙ w.0) all c.take_book-book.ensures.current homes_second home_after now_second in
    placed_of c.move_name.new.seat.view c.write_second.new.book.history two_entries w.1 (subst (λ (s : Sitting). Placed s.view two_entries) (sym is) placed)

pub commit-requires-clause-decided : goal.commit-requires-clause-decided
commit-requires-clause-decided g c = let t = c.take_book-book.ensures.taken in let v : Seen = c.take_book-book.new.seat.view in let w = c.if-not-write_second.ensures.written in
    let u : Seen = c.move_name.new.seat.view in
    decided_of u c.write_second.new.book.history two_entries w.1
    (decided_none (take 1 two_entries) two_entries u (ap (λ (s : Sitting). s.view.front) c.move_name.ensures.view ∙ (ap (λ (s : Sitting). s.view.front) t.2 ∙ w.0)) (ap (λ (s : Sitting). s.view.named) c.move_name.ensures.view ∙ c.take_book-book.ensures.current.2) decides_second)

pub commit-requires-clause-names : goal.commit-requires-clause-names
commit-requires-clause-names g c =
    once_of c.write_second.new.book.input adding_machine c.write_second.new.book.history two_entries (c.write_second.ensures.input ∙ (c.take_book-book.ensures.input ∙ c.requires.stands.input)) c.if-not-write_second.ensures.written.1 once-third

pub returns-clause-below : goal.returns-clause-below
returns-clause-below g c = let t = c.take_book-book.ensures.taken in let v : Seen = c.take_book-book.new.seat.view in let w = c.if-not-write_second.ensures.written in
    let input : v.input ≡ adding_machine = ap (λ (s : Sitting). s.view.input) t.2 ∙ c.requires.stands.input in
    let all : HoldsBelow 18 v = book_below t.0 t.1 c.take_book-book.result.history c.args.seat.now c.take_book-book.new.seat t.2 (holds_known adding_machine 17 (take 1 two_entries) c.args.seat.now.view c.requires.below) in
    let is : c.move_name.new.seat ≡ sitting_with c.take_book-book.new.seat (moved_name 1 0 v) = c.move_name.ensures.view ∙ ap (λ (k : ℕ). sitting_with c.take_book-book.new.seat (moved_name 1 k v)) c.requires.pool in
    let placed : Placed (moved_name 1 0 v) two_entries = moved_placed adding_machine 1 0 (take 1 two_entries) two_entries v input (ap (λ (s : Sitting). s.view.front) t.2 ∙ w.0) all c.take_book-book.ensures.current homes_second home_after now_second in
    knows_of adding_machine c.write_second.new.book.history two_entries c.move_name.new.seat c.commit.new.seat c.commit.ensures w.1 (ap (λ (s : Sitting). s.view.input) is ∙ input)
    (subst (λ (s : Sitting). HoldsBelow 18 s.view) (sym is) (moved_holds 1 0 18 v all)) (subst (λ (s : Sitting). Placed s.view two_entries) (sym is) placed)

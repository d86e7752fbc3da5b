use Rattle.std.proofs.Common.{◌≡◌, ℕ, List, [], ◌∷◌, ◌++◌, inr, take, sym, ap, ◌∙◌, subst, arith}
use Rattle.sched_model.specs.declared.event.Entry.{Entry}
use Rattle.journal_core.specs.Histories.{part_at}
use Rattle.lock_moves.specs.SeatSight.{Known, Seen, Sitting, known_part, find_lock, book_known, committed_view}
use Rattle.lock_moves.specs.Plays.{Placed}
use Rattle.lock_moves.specs.Sets.{IsAsKnown}
use Rattle.lock_example.specs.Example.{adding_machine, is_added, two_entries, part_after}
use Rattle.lock_example.proofs.Checks.{homes_first, now_first, decides_first, parts_first, once-second}
use Rattle.lock_moves.proofs.Holding.{known_current, placed_at, placed_of, decided_none, decided_of, once_of}
use Rattle.lock_example.proofs.Holding.{holds_tool, tool_taken, tool_known, kept_tool}
use Rattle.lock_example.proofs.alone.do_command.Goals as goal

pub commit-requires-clause-held : goal.commit-requires-clause-held
commit-requires-clause-held g c = let l = c.lock-tool.ensures.taken in let b = c.take_book-book.ensures.taken in let v : Seen = c.take_book-book.new.seat.view in let value = c.lock-tool.result.value in
    let x : Known = known_part (part_after value.lock value.count) l.1.0 in
    let held : v.held ≡ holds_tool x = tool_taken l.0 l.1.1 b.0 b.1 x.part x.names c.take_book-book.result.history c.args.seat.now c.lock-tool.new.seat c.take_book-book.new.seat c.requires.nothing l.1.2 b.2 in
    (book_known, ap (find_lock 17) held)

pub commit-requires-clause-next : goal.commit-requires-clause-next
commit-requires-clause-next g c = let b = c.take_book-book.ensures.taken in let v : Seen = c.take_book-book.new.seat.view in let w = c.if-not-write_first.ensures.written in
    let front : v.front ≡ [] = ap (λ (s : Sitting). s.view.front) b.2 ∙ w.0 in
    inr (is_added, w.1 ∙ ap (λ (k : List Entry). k ++ is_added ∷ []) (sym front))

pub commit-requires-clause-kept : goal.commit-requires-clause-kept
commit-requires-clause-kept g c = let l = c.lock-tool.ensures.taken in let b = c.take_book-book.ensures.taken in let v : Seen = c.take_book-book.new.seat.view in let w = c.if-not-write_first.ensures.written in let value = c.lock-tool.result.value in
    let x : Known = known_part (part_after value.lock value.count) l.1.0 in
    let held : v.held ≡ holds_tool x = tool_taken l.0 l.1.1 b.0 b.1 x.part x.names c.take_book-book.result.history c.args.seat.now c.lock-tool.new.seat c.take_book-book.new.seat c.requires.nothing l.1.2 b.2 in
    let input : v.input ≡ adding_machine = ap (λ (s : Sitting). s.view.input) b.2 ∙ (ap (λ (s : Sitting). s.view.input) l.1.2 ∙ c.requires.stands.input) in
    let front : v.front ≡ [] = ap (λ (s : Sitting). s.view.front) b.2 ∙ w.0 in
    kept_tool [] c.write_first.new.book.history v x input front held (λ k other. ap (λ h. part_at adding_machine h k) w.1 ∙ parts_first k other)

pub commit-requires-clause-placed : goal.commit-requires-clause-placed
commit-requires-clause-placed g c = let l = c.lock-tool.ensures.taken in let b = c.take_book-book.ensures.taken in let v : Seen = c.take_book-book.new.seat.view in let w = c.if-not-write_first.ensures.written in
    let input : v.input ≡ adding_machine = ap (λ (s : Sitting). s.view.input) b.2 ∙ (ap (λ (s : Sitting). s.view.input) l.1.2 ∙ c.requires.stands.input) in
    let front : v.front ≡ [] = ap (λ (s : Sitting). s.view.front) b.2 ∙ w.0 in
    placed_of v c.write_first.new.book.history (take 1 two_entries) w.1 (placed_at adding_machine [] (take 1 two_entries) v input front c.take_book-book.ensures.current homes_first now_first)

pub commit-requires-clause-decided : goal.commit-requires-clause-decided
commit-requires-clause-decided g c = let b = c.take_book-book.ensures.taken in let v : Seen = c.take_book-book.new.seat.view in let w = c.if-not-write_first.ensures.written in
    let front : v.front ≡ [] = ap (λ (s : Sitting). s.view.front) b.2 ∙ w.0 in
    decided_of v c.write_first.new.book.history (take 1 two_entries) w.1 (decided_none [] (take 1 two_entries) v front c.take_book-book.ensures.current.2 decides_first)

pub commit-requires-clause-names : goal.commit-requires-clause-names
commit-requires-clause-names g c = let l = c.lock-tool.ensures.taken in let mid = ap (λ (s : Sitting). s.view.input) l.1.2 ∙ c.requires.stands.input in
    once_of c.write_first.new.book.input adding_machine c.write_first.new.book.history (take 1 two_entries) (c.write_first.ensures.input ∙ (c.take_book-book.ensures.input ∙ mid)) c.if-not-write_first.ensures.written.1 once-second

pub unlock-requires-clause-known : goal.unlock-requires-clause-known
unlock-requires-clause-known g c = let l = c.lock-tool.ensures.taken in let b = c.take_book-book.ensures.taken in let v : Seen = c.take_book-book.new.seat.view in let w = c.if-not-write_first.ensures.written in let value = c.lock-tool.result.value in
    let x : Known = known_part (part_after value.lock value.count) l.1.0 in
    let held : v.held ≡ holds_tool x = tool_taken l.0 l.1.1 b.0 b.1 x.part x.names c.take_book-book.result.history c.args.seat.now c.lock-tool.new.seat c.take_book-book.new.seat c.requires.nothing l.1.2 b.2 in
    let input : v.input ≡ adding_machine = ap (λ (s : Sitting). s.view.input) b.2 ∙ (ap (λ (s : Sitting). s.view.input) l.1.2 ∙ c.requires.stands.input) in
    let front : v.front ≡ [] = ap (λ (s : Sitting). s.view.front) b.2 ∙ w.0 in
    let placed : Placed v (take 1 two_entries) = placed_at adding_machine [] (take 1 two_entries) v input front c.take_book-book.ensures.current homes_first now_first in
    let after = c.commit.new.seat.view in
    let is = ap (λ (s : Sitting). s.view) c.commit.ensures ∙ ap (λ h. committed_view h v) w.1 in
    let e = c.new.ensures in let part = part_after c.new.result.lock c.new.result.count in
    subst (λ (k : ℕ). IsAsKnown k part after) (sym c.lock-tool.ensures.lock)
    (known_current adding_machine (take 1 two_entries) 16 part after once-second (omega arith) (λ i. part_after (e.lock i) (e.count i)) (tool_known (take 1 two_entries) v after x input held placed is))

use Rattle.std.proofs.Common.{◌≡◌, ℕ, ◌+◌, ap, sym, ◌∙◌, arith, length, Some}
use Rattle.sched_report.specs.Lines.{text_of_end}
use Rattle.sched_report.specs.Stays.{last_moment}
use Rattle.xensched_top.specs.WatchedRun.{text_of_look}
use Rattle.xensched_top.proofs.WatchLemmas.{last_line_at, look_line_at}
use Rattle.xensched_top.proofs.watched.put_watch_line.Goals as goal

pub returns-then-number-len : goal.returns-then-number-len
returns-then-number-len c =
    let next : 1 + c.args.number ≡ c.args.number + 1 = omega arith in
    look_line_at 1 c.args.number c.args.looks.now.items c.get.result (text_of_end (length c.args.book.now.history) (last_moment c.args.book.now.history)) c.get.ensures
    ∙ ap Some (ap (λ (n : ℕ). text_of_look n c.get.result) next ∙ sym c.put_look.ensures)

pub returns-else-number-len : goal.returns-else-number-len
returns-else-number-len c =
    let all : c.args.number ≡ length c.args.looks.now.items = omega (arith, c.len.ensures, c.if-number-len.false, c.requires.place) in
    last_line_at 1 c.args.number c.args.looks.now.items (text_of_end (length c.args.book.now.history) (last_moment c.args.book.now.history)) all
    ∙ ap Some (ap (λ (n : ℕ). text_of_end n (last_moment c.args.book.now.history)) (sym c.len-else-number-len.ensures)
    ∙ ap (λ (m : ℕ). text_of_end c.len-else-number-len.result m) (sym c.last_of.ensures) ∙ sym c.put_last_line.ensures)

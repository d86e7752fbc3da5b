use Rattle.std.proofs.Common.{◌≤◌, List, suc, ◌-◌, length, ap, ◌∙◌, arith}
use Rattle.std.proofs.lemmas.List.{take_all}
use Rattle.sched_model.specs.declared.event.Entry.{Entry}
use Rattle.sched_report.specs.Stays.{last_moment}
use Rattle.pcpu_watch.proofs.Counting.{last-at}
use Rattle.xensched_top.proofs.watched.last_of.Goals as goal

pub returns-in_default : goal.returns-in_default
returns-in_default c =
    let history : List Entry = c.args.book.now.history in
    let all : length history ≤ suc (c.len.result - 1) = omega (arith, c.len.ensures) in
    last-at history (c.len.result - 1) c.get.result c.get.ensures ∙ ap last_moment (take_all (suc (c.len.result - 1)) history all)

use Rattle.std.proofs.Common.{◌≡◌, ◌≤◌, ◌+◌, ℕ, List, length, rules, subst, arith}
use Rattle.sched_io.specs.Puts.{AddsPart}
use Rattle.sched_report.specs.Lines.{text_of_end}
use Rattle.sched_report.specs.Stays.{last_moment}
use Rattle.xensched_top.specs.WatchedRun.{text_of_watch, watch_lines}
use Rattle.xensched_top.proofs.ItemLemmas.{PutSoFar, put_ends, put_more, put_part}
use Rattle.xensched_top.proofs.WatchLemmas.{lines-count}
use Rattle.xensched_top.proofs.watched.put_watch.Goals as goal

pub returns-in_err-put-clause-part : goal.returns-in_err-put-clause-part
returns-in_err-put-clause-part g c =
    let part : AddsPart (g.K.Sink.told c.args.sink.now) (g.K.Sink.told c.put.new.self) (text_of_watch c.args.looks.now.items c.args.book.now.history) =
    put_part _ c.as_bytes.result.now c.loop-number.invariant c.put_watch_line.ensures c.as_bytes.ensures.bytes c.in_err-put.ensures.prefix in
    search (rules, part)

pub loop-number-preserved : goal.loop-number-preserved
loop-number-preserved g c =
    put_more _ c.as_bytes.result.now c.loop-number.invariant c.put_watch_line.ensures c.as_bytes.ensures.bytes c.in_ok-put.ensures.appended c.put.ensures.counts

pub returns-in_err-put-2-clause-part : goal.returns-in_err-put-2-clause-part
returns-in_err-put-2-clause-part g c =
    let last : c.loop-number.number ≡ c.len.result = omega (arith, c.loop-number.auto.number-end, c.loop-number-test.false, c.len-number-end.ensures, c.len.ensures) in
    let far = subst (λ (i : ℕ). PutSoFar (λ (line : List ℕ). line) (watch_lines c.args.looks.now.items c.args.book.now.history) (g.K.Sink.told c.args.sink.now) (g.K.Sink.told c.loop-number.sink)
    (g.K.Sink.faults c.args.sink.now) (g.K.Sink.faults c.loop-number.sink) i) last c.loop-number.invariant in
    let part : AddsPart (g.K.Sink.told c.args.sink.now) (g.K.Sink.told c.put-2.new.self) (text_of_watch c.args.looks.now.items c.args.book.now.history) =
    put_part _ c.as_bytes-2.result.now far c.put_watch_line-2.ensures c.as_bytes-2.ensures.bytes c.in_err-put-2.ensures.prefix in
    search (rules, part)

pub returns-clause-whole : goal.returns-clause-whole
returns-clause-whole g c =
    let last : c.loop-number.number ≡ c.len.result = omega (arith, c.loop-number.auto.number-end, c.loop-number-test.false, c.len-number-end.ensures, c.len.ensures) in
    let far = subst (λ (i : ℕ). PutSoFar (λ (line : List ℕ). line) (watch_lines c.args.looks.now.items c.args.book.now.history) (g.K.Sink.told c.args.sink.now) (g.K.Sink.told c.loop-number.sink)
    (g.K.Sink.faults c.args.sink.now) (g.K.Sink.faults c.loop-number.sink) i) last c.loop-number.invariant in
    let all : length (watch_lines c.args.looks.now.items c.args.book.now.history) ≤ c.len.result + 1 =
    (let count = lines-count 1 c.args.looks.now.items (text_of_end (length c.args.book.now.history) (last_moment c.args.book.now.history)) in omega (arith, count, c.len.ensures)) in
    put_ends (put_more _ c.as_bytes-2.result.now far c.put_watch_line-2.ensures c.as_bytes-2.ensures.bytes c.in_ok-put-2.ensures.appended c.put-2.ensures.counts) all

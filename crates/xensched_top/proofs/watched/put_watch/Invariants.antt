use Rattle.std.proofs.Common.{List, ℕ}
use Rattle.xensched_top.specs.WatchedRun.{watch_lines}
use Rattle.xensched_top.proofs.ItemLemmas.{PutSoFar}
use Rattle.xensched_top.proofs.watched.put_watch.Given as goal

abbrev pub invariant-loop-number : goal.invariant-loop-number
invariant-loop-number g l =
    PutSoFar (λ (line : List ℕ). line) (watch_lines l.fn.looks.items l.fn.book.history) (g.K.Sink.told l.fn.sink) (g.K.Sink.told l.sink) (g.K.Sink.faults l.fn.sink) (g.K.Sink.faults l.sink) l.number

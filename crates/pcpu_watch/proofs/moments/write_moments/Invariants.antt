use Rattle.std.proofs.Common.{◌≡◌, length}
use Rattle.pcpu_watch.specs.Watcher.{IsWatch, StaysWatch}
use Rattle.pcpu_watch.proofs.moments.write_moments.Given as goal

abbrev pub invariant-loop-moment : goal.invariant-loop-moment
invariant-loop-moment g l = record {
  stays : StaysWatch l.fn.hall l.fn.watch l.watch;
  is : IsWatch l.fn.hall l.watch;
  count : length l.watch.looks.items ≡ l.moment;
}

use Rattle.std.proofs.Common.{◌≤◌, ◌+◌, ◌^◌}
use Rattle.pcpu_threads.specs.Hearing.{HearsOn}
use Rattle.pcpu_threads.proofs.heard.listen.Given as goal

abbrev pub invariant-loop : goal.invariant-loop
invariant-loop g l = record { heard : HearsOn g.L.Listener.has_heard l.hall 0 l.read l.fn.scribe l.fn.listener l.fn.outlet l.scribe l.listener l.outlet; few : l.read ≤ 2 ^ 32 + 2048 }

use Rattle.std.proofs.Common.{take}
use Rattle.pcpu_threads.specs.Hearing.{IsTold}
use Rattle.pcpu_threads.proofs.heard.tell.Given as goal

abbrev pub invariant-loop-entry : goal.invariant-loop-entry
invariant-loop-entry g l = IsTold g.L.Listener.has_heard (take l.entry-index l.entries) l.fn.listener l.fn.outlet l.listener l.outlet

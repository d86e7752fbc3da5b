use Rattle.pcpu_threads.specs.Workers.{HasWorked}
use Rattle.pcpu_threads.proofs.workers.work.Given as goal

abbrev pub invariant-loop-d : goal.invariant-loop-d
invariant-loop-d g l = HasWorked l.hall l.workers l.d l.worker l.fn.seat l.seat

use Rattle.pcpu_threads.specs.Ends.{Closes}
use Rattle.pcpu_threads.proofs.closing.close_all.Given as goal

abbrev pub invariant-loop : goal.invariant-loop
invariant-loop g l = Closes l.fn.seat l.seat

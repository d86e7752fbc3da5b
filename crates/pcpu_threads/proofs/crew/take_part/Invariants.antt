use Rattle.pcpu_threads.specs.Crews.{IsRow}
use Rattle.pcpu_threads.proofs.crew.take_part.Given as goal

abbrev pub invariant-loop : goal.invariant-loop
invariant-loop g l = IsRow l.hall l.domains l.seats

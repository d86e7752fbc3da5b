use Rattle.pcpu_threads.specs.Crews.{ActsForWorkers, IsRow}
use Rattle.pcpu_threads.proofs.crew.work_beside.Given as goal

abbrev pub invariant-loop : goal.invariant-loop
invariant-loop g l = record { row : IsRow l.hall l.domains l.seats; acts : ActsForWorkers l.fn.seats l.seats }

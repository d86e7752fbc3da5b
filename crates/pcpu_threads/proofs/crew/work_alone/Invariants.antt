use Rattle.pcpu_threads.specs.Crews.{ActsForWorkers, IsRow}
use Rattle.pcpu_threads.proofs.crew.work_alone.Given as goal

abbrev pub invariant-loop-i : goal.invariant-loop-i
invariant-loop-i g l = record { row : IsRow l.hall l.domains l.seats; acts : ActsForWorkers l.fn.seats l.seats }

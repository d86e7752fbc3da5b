use Rattle.std.proofs.Common.{◌≡◌, ◌+◌, length, vec_capacity}
use Rattle.std.specs.List.{All}
use Rattle.hall.specs.Seats.{IsOf}
use Rattle.pcpu_threads.specs.Workers.{all_taken_in, shares_of}
use Rattle.pcpu_threads.proofs.closing.take_in.Given as goal

abbrev pub decreases-loop-worker : goal.decreases-loop-worker
decreases-loop-worker l = length l.workers.items

abbrev pub invariant-loop-worker : goal.invariant-loop-worker
invariant-loop-worker l =
    record {
      of : IsOf l.hall l.seat;
      others : All (IsOf l.hall) l.workers.items;
      shares : l.seat.sitting.view.shares + shares_of l.workers.items ≡ l.fn.seat.sitting.view.shares + shares_of l.fn.workers.items;
      room : vec_capacity l.workers ≡ vec_capacity l.fn.workers;
      joined : all_taken_in l.workers.items l.seat ≡ all_taken_in l.fn.workers.items l.fn.seat;
    }

use Rattle.std.proofs.Common.{◌≡◌, ◌≤◌, ◌+◌, length, vec_capacity}
use Rattle.std.specs.List.{All}
use Rattle.hall.specs.Seats.{IsOf}
use Rattle.pcpu_threads.specs.Workers.{IsNew, lessened_by, shares_of}
use Rattle.pcpu_threads.proofs.workers.split_workers.Given as goal

abbrev pub invariant-loop : goal.invariant-loop
invariant-loop l =
    record {
      of : IsOf l.hall l.seat;
      others : All (IsOf l.hall) l.workers.items;
      count : length l.workers.items ≡ l.counter;
      shares : l.seat.sitting.view.shares + shares_of l.workers.items ≡ 1024;
      left : l.seat.sitting.view.shares + l.counter ≡ 1024;
      seat : l.seat ≡ lessened_by l.counter l.fn.seat;
      new : All (IsNew l.fn.seat) l.workers.items;
      room : l.processors ≤ vec_capacity l.workers;
    }

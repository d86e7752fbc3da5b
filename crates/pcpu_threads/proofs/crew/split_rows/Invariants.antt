use Rattle.std.proofs.Common.{◌≡◌, ◌≤◌, ◌+◌, length, vec_capacity}
use Rattle.std.specs.List.{All}
use Rattle.hall.specs.Seats.{IsOf, shares_in}
use Rattle.pcpu_threads.specs.Crews.{IsHand}
use Rattle.pcpu_threads.proofs.crew.split_rows.Given as goal

abbrev pub invariant-loop : goal.invariant-loop
invariant-loop l =
    record {
      of : IsOf l.hall l.seat;
      left : shares_in l.seat + l.counter ≡ shares_in l.fn.seat;
      hands : All (IsHand l.hall) l.seats.items;
      count : length l.seats.items ≡ l.counter;
      room : l.count ≤ vec_capacity l.seats;
    }

use Rattle.std.proofs.Common.{◌≡◌}
use Rattle.std.specs.List.{All}
use Rattle.hall.specs.Seats.{IsOf}
use Rattle.machine_trials.specs.TrialSeats.{MayServe}
use Rattle.machine_trials.proofs.side_by_side.go_in_rounds.Given as goal

abbrev pub invariant-loop : goal.invariant-loop
invariant-loop g l =
    IsOf l.hall l.first
    × (l.first.sitting.view.shares ≡ l.initial.first.sitting.view.shares)
    × All (MayServe l.hall l.actors) l.seats

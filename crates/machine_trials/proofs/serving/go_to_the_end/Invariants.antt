use Rattle.std.proofs.Common.{◌≡◌}
use Rattle.hall.specs.Seats.{IsOf}
use Rattle.machine_trials.proofs.serving.go_to_the_end.Given as goal

abbrev pub invariant-loop-turn : goal.invariant-loop-turn
invariant-loop-turn g l = IsOf l.hall l.seat × (l.seat.sitting.view.shares ≡ l.initial.seat.sitting.view.shares)

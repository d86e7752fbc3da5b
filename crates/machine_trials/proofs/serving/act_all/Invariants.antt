use Rattle.std.proofs.Common.{◌≡◌}
use Rattle.hall.specs.Seats.{IsOf}
use Rattle.machine_trials.proofs.serving.act_all.Given as goal

abbrev pub invariant-loop : goal.invariant-loop
invariant-loop g l = IsOf l.hall l.seat × (l.seat.sitting.view.shares ≡ l.initial.seat.sitting.view.shares)

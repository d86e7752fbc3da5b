use Rattle.std.proofs.Common.{◌≡◌}
use Rattle.hall.specs.Seats.{IsOf}
use Rattle.machine_trials.proofs.serving.acts_once.Given as goal

abbrev pub invariant-loop-k : goal.invariant-loop-k
invariant-loop-k g l = IsOf l.hall l.seat × (l.seat.sitting.view.shares ≡ l.initial.seat.sitting.view.shares)

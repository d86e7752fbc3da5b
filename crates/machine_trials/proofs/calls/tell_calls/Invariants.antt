use Rattle.std.proofs.Common.{◌≡◌}
use Rattle.hall.specs.Seats.{IsOf}
use Rattle.machine_trials.proofs.calls.tell_calls.Given as goal

abbrev pub invariant-loop-text : goal.invariant-loop-text
invariant-loop-text g l =
    (goal.iterator-loop-text g).can_next l.text-iterator
    × (goal.iterator-loop-text g).is_finite l.text-iterator
    × IsOf l.hall l.a
    × IsOf l.hall l.b
    × (l.a.sitting.view.shares ≡ l.initial.a.sitting.view.shares)
    × (l.b.sitting.view.shares ≡ l.initial.b.sitting.view.shares)

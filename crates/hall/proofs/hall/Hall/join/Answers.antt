use Rattle.std.proofs.Common.{refl, sym, subst}
use Rattle.lock_moves.specs.SeatSight.{Sitting}
use Rattle.hall.specs.Seats.{SitsFree}
use Rattle.hall.proofs.Counting.{counted-later}
use Rattle.hall.proofs.hall.Hall.join.Goals as goal

pub invariant_of-into : goal.invariant_of-into
invariant_of-into c =
    let v = c.into.inside.seat.view in
    subst (λ (s : Sitting). SitsFree s c.into.inside.arrived) (sym c.join.ensures.joined)
    (record {
      nothing = c.into.invariant.nothing;
      processor = c.into.invariant.processor;
      counted = counted-later v.input.config.granularity v.front _ c.into.inside.arrived (_, refl) c.into.invariant.counted;
    })

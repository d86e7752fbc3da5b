use Rattle.std.proofs.Common.{◌≡◌, ℕ, List, length}
use Rattle.lock_moves.specs.SeatSight.{Sitting}
use Rattle.lock_moves.specs.Words.{name_number}
use Rattle.hall.specs.Holds.{InHoldOn, last_of, seated}
use Rattle.hall.specs.Serving.{MayComeNext, Serves}
use Rattle.hall.proofs.hall.Hall.serve_on.Given as goal

abbrev pub invariant-loop : goal.invariant-loop
invariant-loop g l =
    record {
      mid : Sitting;
      hold : InHoldOn l.self l.lock.0 (name_number l.holder.name) l.t.0 l.slot l.book mid (seated l.seat l.arrived);
      found : MayComeNext l.slot l.t.0 l.found;
      places : List ℕ;
      serves : Serves l.holder.actor places (seated l.fn.seat l.fn.arrived) (seated mid l.arrived);
      count : l.acted.count ≡ length places;
      first : l.acted.first ≡ last_of places;
    }

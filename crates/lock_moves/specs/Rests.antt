-- How a seat is read between two calls.
use Rattle.std.specs.Prelude.{◌≡◌, ◌<◌, List, [], ◌∷◌}
use Rattle.atomic_table.specs.declared.badge.Badge.{Badge}
use Rattle.lock_moves.specs.SeatSight.{View, Sitting, spent_view}

-- what the table keeps of the seat
abbrev pub first_of_views : List View → View
first_of_views [] = spent_view
first_of_views (v ∷ vs) = v

-- the seat as contracts see it
abbrev pub sitting_of : Badge View → Sitting
sitting_of b = record { table = b.table_id; id = b.id; view = (first_of_views b.views).seen }

-- it is a seat, no slot is out with it, and it was not joined away
abbrev pub Rests : Badge View → Type 0
Rests b = (b.views ≡ first_of_views b.views ∷ []) × ((first_of_views b.views).out ≡ 0) × (0 < (first_of_views b.views).seen.shares)

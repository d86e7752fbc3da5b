-- A lock that was taken is known, and put back it leaves the seat as it was.
use Rattle.std.proofs.Common.{◌≡◌, ℕ, List, [], ◌∷◌, cond, refl, ap, ◌∙◌, eq-eqb}
use Rattle.journal_core.specs.Parts.{StatePart}
use Rattle.lock_moves.specs.SeatSight.{Seen, Sitting, known_part, find_lock, after_give, after_search}
use Rattle.lock_moves.specs.Sets.{sitting_with, HasTaken, IsAsKnown}
use Rattle.lock_moves.proofs.Finding.{find-head}
use Rattle.lock_example.specs.Visits.{IsBack}

pub taken-known : (k : ℕ) (part : StatePart) (v : Seen) (old new : Sitting) → HasTaken k part v old new → IsAsKnown k part new.view
taken-known k part v old new t = (known_part part t.0, ap (λ (s : Sitting). find_lock k s.view.held) t.2 ∙ find-head k (known_part part t.0) v.held, refl, t.3)

pub put_back : (s : Sitting) (k : ℕ) (part : StatePart) (refused : List ℕ) (t : ℕ) (mid after : Sitting) → HasTaken k part (after_search refused t s.view) s mid → after ≡ sitting_with mid (after_give k mid.view) → IsBack s after
put_back s k part refused t mid after taken given = (
  refused,
  taken.1,
  given ∙ ((λ i. let m = taken.2 i in sitting_with m (after_give k m.view)) ∙ (λ i. sitting_with s (record (after_search refused taken.1 s.view) { held = cond (eq-eqb k k refl i) [] ((k, known_part part taken.0) ∷ []) }))),
)

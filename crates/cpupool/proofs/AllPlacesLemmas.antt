-- What holds of every place holds of each.
use Rattle.std.proofs.Common.{◌≡◌, ◌<◌, ℕ, zero, suc, List, [], ◌∷◌, length, get_or, subst, arith}
use Rattle.std.specs.Prelude.{Option, Some, None}
use Rattle.std.specs.Option.{ForSome}
use Rattle.sched_laws.specs.EachPlace.{AllPlaces}

-- what stands at the place i has the property
pub place_fits : {X : Type 0} (P : X → Type 0) (places : List (Option X)) (i : ℕ) (d : Option X) → i < length places → AllPlaces P places → ForSome (get_or places i d) P
place_fits P [] i d below all = absurd (omega arith)
place_fits P (None ∷ places) zero d below all = λ x is. cc
place_fits P (Some x ∷ places) zero d below all = λ y is. let same : x ≡ y = cc in subst P same all.0
place_fits P (None ∷ places) (suc i) d below all = place_fits P places i d (omega arith) all
place_fits P (Some x ∷ places) (suc i) d below all = place_fits P places i d (omega arith) all.1

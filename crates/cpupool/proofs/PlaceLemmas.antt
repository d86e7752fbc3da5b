-- Places past the end.
use Rattle.std.proofs.Common.{◌≡◌, ◌≤◌, ℕ, zero, suc, List, [], ◌∷◌, length, refl, ap, ◌∙◌, arith}
use Rattle.std.specs.Prelude.{Option, Some, option_map, slice_set}
use Rattle.sched_model.specs.Places.{at_place, change_at, change_item}

-- a place past the end cannot be written
pub set_past : {X : Type 0} (xs : List X) (i : ℕ) (x : X) → length xs ≤ i → slice_set xs i x ≡ xs
set_past [] i x past = refl
set_past (y ∷ xs) zero x past = absurd (omega arith)
set_past (y ∷ xs) (suc i) x past = ap (λ ys. y ∷ ys) (set_past xs i x (omega arith))

-- an item that is replaced
pub changed_item : {X : Type 0} (i : ℕ) (x : X) (xs : List X) → change_item i (λ old. x) xs ≡ slice_set xs i x
changed_item i x [] = refl
changed_item zero x (y ∷ xs) = refl
changed_item (suc i) x (y ∷ xs) = ap (λ ys. y ∷ ys) (changed_item i x xs)

-- a list at a place, with one item replaced
pub changed_there : {X : Type 0} (places : List (Option (List X))) (r i : ℕ) (x : X) (xs : List X) → at_place places r ≡ Some xs → change_at r (change_item i (λ old. x)) places ≡ slice_set places r (Some (slice_set xs i x))
changed_there places r i x xs there =
    ap (λ o. slice_set places r (option_map (change_item i (λ old. x)) o)) there ∙ ap (λ ys. slice_set places r (Some ys)) (changed_item i x xs)

-- A list in order stays so with one item more at its end.
use Rattle.std.proofs.Common.{◌≡◌, ℕ, zero, suc, ◌<◌, ◌≤◌, ◌⊎◌, List, [], ◌∷◌, ◌++◌, Some, length, refl, ap, subst, arith, inl, inr, slice_get}
use Rattle.std.specs.List.{All}
use Rattle.std.proofs.lemmas.Option.{get_or_from_slice_get}
use Rattle.std.proofs.lemmas.Option.{slice_get_within}

-- the item at a place is one of the front, or the last
place_cases : {X : Type 0} (xs : List X) (x y : X) (k : ℕ) → slice_get (xs ++ x ∷ []) k ≡ Some y → ((k < length xs) × (slice_get xs k ≡ Some y)) ⊎ ((k ≡ length xs) × (x ≡ y))
place_cases [] x y zero e = inr (refl, cc)
place_cases [] x y (suc k) e = absurd cc
place_cases (z ∷ xs) x y zero e = inl (omega arith, e)
place_cases (z ∷ xs) x y (suc k) e = elim (place_cases xs x y k e) [ inl h ↦ inl (omega (arith, h.0), h.1) | inr h ↦ inr (omega (arith, h.0), h.1) ]

-- earlier items are not above later ones
abbrev pub IsInOrder : {X : Type 0} → (X → ℕ) → List X → Type 0
IsInOrder {X} f xs = (i j : ℕ) (a b : X) → i ≤ j → slice_get xs i ≡ Some a → slice_get xs j ≡ Some b → f a ≤ f b

below_last : {X : Type 0} (f : X → ℕ) (xs : List X) (x a : X) (i : ℕ) → All (λ y. f y ≤ f x) xs → slice_get xs i ≡ Some a → f a ≤ f x
below_last f xs x a i below e = subst (λ y. f y ≤ f x) (get_or_from_slice_get xs i a a e) (below i a (slice_get_within xs i a e))

pub in_order_push : {X : Type 0} (f : X → ℕ) (xs : List X) (x : X) → IsInOrder f xs → All (λ y. f y ≤ f x) xs → IsInOrder f (xs ++ x ∷ [])
in_order_push f xs x ordered below i j a b le ga gb =
    elim (place_cases xs x b j gb) [
      | inl late ↦ elim (place_cases xs x a i ga) [ inl h ↦ ordered i j a b le h.1 late.1 | inr h ↦ absurd (omega (arith, h.0, late.0)) ]
      | inr last ↦ elim (place_cases xs x a i ga) [
        | inl h ↦ omega (arith, below_last f xs x a i below h.1, ap f last.1)
        | inr h ↦ omega (arith, ap f h.1, ap f last.1)
      ]
    ]

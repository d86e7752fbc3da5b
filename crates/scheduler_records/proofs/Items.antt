-- Changes of one item of a list, and what holds of each item.
use Rattle.std.proofs.Common.{◌≡◌, ℕ, zero, suc, List, [], ◌∷◌, refl, sym, ap, subst, arith, Bool, true, false, cond}
use Rattle.std.specs.Prelude.{filter, ◌&&◌, Some, None, slice_get, slice_set}
use Rattle.std.specs.List.{All}
use Rattle.sched_model.specs.Places.{change_item}

-- an item that is there, put back changed
pub change_item-put : {X : Type 0} (n : ℕ) (f : X → X) (xs : List X) (x : X) → slice_get xs n ≡ Some x → slice_set xs n (f x) ≡ change_item n f xs
change_item-put n f [] x is = refl
change_item-put {X} zero f (y ∷ xs) x is = let same : y ≡ x = cc in ap (λ (z : X). f z ∷ xs) (sym same)
change_item-put (suc n) f (y ∷ xs) x is = ap (λ ys. y ∷ ys) (change_item-put n f xs x is)

-- where there is none, nothing is changed
pub change_item-none : {X : Type 0} (n : ℕ) (f : X → X) (xs : List X) → slice_get xs n ≡ None → change_item n f xs ≡ xs
change_item-none n f [] is = refl
change_item-none zero f (y ∷ xs) is = absurd cc
change_item-none (suc n) f (y ∷ xs) is = ap (λ ys. y ∷ ys) (change_item-none n f xs is)

-- an item has what each has
pub get_fits : {X : Type 0} (P : X → Type 0) (xs : List X) (n : ℕ) (x : X) → All P xs → slice_get xs n ≡ Some x → P x
get_fits P [] n x all is = absurd cc
get_fits P (y ∷ xs) zero x all is = let same : y ≡ x = cc in subst P same (all 0 y (omega arith))
get_fits P (y ∷ xs) (suc n) x all is = get_fits P xs n x (λ k d h. all (suc k) d (omega (arith, h))) is

-- a change that keeps what holds of each item
pub All-change_item : {X : Type 0} (P : X → Type 0) (n : ℕ) (f : X → X) (xs : List X) → ((x : X) → slice_get xs n ≡ Some x → P (f x)) → All P xs → All P (change_item n f xs)
All-change_item P n f [] keeps all k d h = absurd (omega (arith, h))
All-change_item P zero f (y ∷ xs) keeps all zero d h = keeps y refl
All-change_item P zero f (y ∷ xs) keeps all (suc k) d h = all (suc k) d h
All-change_item P (suc n) f (y ∷ xs) keeps all zero d h = all zero d (omega arith)
All-change_item P (suc n) f (y ∷ xs) keeps all (suc k) d h = All-change_item P n f xs keeps (λ j e l. all (suc j) e (omega (arith, l))) k d (omega (arith, h))

-- the changed item has what the change gives each
pub get-change_item_fits : {X : Type 0} (P : X → Type 0) (n : ℕ) (f : X → X) (xs : List X) (y : X) → All (λ x. P (f x)) xs → slice_get (change_item n f xs) n ≡ Some y → P y
get-change_item_fits P n f [] y all is = absurd cc
get-change_item_fits P zero f (x ∷ xs) y all is = let same : f x ≡ y = cc in subst P same (all 0 x (omega arith))
get-change_item_fits P (suc n) f (x ∷ xs) y all is = get-change_item_fits P n f xs y (λ k d h. all (suc k) d (omega (arith, h))) is

-- the elements that pass two tests, in one go
pub filter-both : {X : Type 0} (p q : X → Bool) (xs : List X) → filter p (filter q xs) ≡ filter (λ x. p x && q x) xs
filter-both p q [] = refl
filter-both {X} p q (x ∷ xs) = elim (q x) as (λ b. filter p (cond b (x ∷ filter q xs) (filter q xs)) ≡ cond (p x && b) (x ∷ filter (λ y. p y && q y) xs) (filter (λ y. p y && q y) xs)) [
  | true ↦ elim (p x) as (λ b. cond b (x ∷ filter p (filter q xs)) (filter p (filter q xs)) ≡ cond (b && true) (x ∷ filter (λ y. p y && q y) xs) (filter (λ y. p y && q y) xs)) [
    | true ↦ ap (λ ys. x ∷ ys) (filter-both p q xs)
    | false ↦ filter-both p q xs
  ]
  | false ↦ elim (p x) as (λ b. filter p (filter q xs) ≡ cond (b && false) (x ∷ filter (λ y. p y && q y) xs) (filter (λ y. p y && q y) xs)) [
    | true ↦ filter-both p q xs
    | false ↦ filter-both p q xs
  ]
]

-- Sums over cores, and over parts of lists.
use Rattle.std.proofs.Common.{◌≡◌, ◌≢◌, ℕ, zero, suc, ◌+◌, ◌≤◌, ◌<◌, Bool, true, false, cond, List, [], ◌∷◌, refl, sym, ◌∙◌, arith, length, map}
use Rattle.std.specs.Prelude.{sum_by, filter, flat_map}
use Rattle.std.proofs.lemmas.List.Sums.{sum_by-cons, sum_by-append}
use Rattle.std.proofs.Common.{subst, inl, inr}
use Rattle.std.proofs.lemmas.Bool.{cases_eq}
use Rattle.sched_model.specs.Places.{numbers_from}

-- what passes the test counts
pub sum_by-filter : {X : Type 0} (q : X → Bool) (f : X → ℕ) (xs : List X) → sum_by f (filter q xs) ≡ sum_by (λ x. cond (q x) (f x) 0) xs
sum_by-filter q f [] = refl
sum_by-filter q f (x ∷ xs) =
    elim (q x) as (λ b. sum_by f (cond b (x ∷ filter q xs) (filter q xs)) ≡ cond b (f x) 0 + sum_by (λ y. cond (q y) (f y) 0) xs) [
      | true ↦ omega (arith, sum_by-cons f x (filter q xs), sum_by-filter q f xs)
      | false ↦ omega (arith, sum_by-filter q f xs)
    ] ∙ sym (sum_by-cons (λ y. cond (q y) (f y) 0) x xs)

pub length-filter : {X : Type 0} (q : X → Bool) (xs : List X) → length (filter q xs) ≡ sum_by (λ x. cond (q x) 1 0) xs
length-filter q [] = refl
length-filter q (x ∷ xs) =
    elim (q x) as (λ b. length (cond b (x ∷ filter q xs) (filter q xs)) ≡ cond b 1 0 + sum_by (λ y. cond (q y) 1 0) xs) [
      | true ↦ omega (arith, length-filter q xs)
      | false ↦ omega (arith, length-filter q xs)
    ] ∙ sym (sum_by-cons (λ y. cond (q y) 1 0) x xs)

pub sum_by-flat_map : {X Y : Type 0} (h : X → ℕ) (g : Y → List X) (ys : List Y) → sum_by h (flat_map g ys) ≡ sum_by (λ y. sum_by h (g y)) ys
sum_by-flat_map h g [] = refl
sum_by-flat_map h g (y ∷ ys) = omega (arith, sum_by-append h (g y) (flat_map g ys), sum_by-flat_map h g ys, sum_by-cons (λ z. sum_by h (g z)) y ys)

pub sum_by-same : {X : Type 0} (f g : X → ℕ) (xs : List X) → ((x : X) → f x ≡ g x) → sum_by f xs ≡ sum_by g xs
sum_by-same f g [] same = refl
sum_by-same f g (x ∷ xs) same = omega (arith, sum_by-cons f x xs, sum_by-cons g x xs, same x, sum_by-same f g xs same)

pub sum_by-plus : {X : Type 0} (f g : X → ℕ) (xs : List X) → sum_by (λ x. f x + g x) xs ≡ sum_by f xs + sum_by g xs
sum_by-plus f g [] = refl
sum_by-plus f g (x ∷ xs) = omega (arith, sum_by-cons f x xs, sum_by-cons g x xs, sum_by-cons (λ y. f y + g y) x xs, sum_by-plus f g xs)

pub sum_by-map : {X Y : Type 0} (f : Y → ℕ) (g : X → Y) (xs : List X) → sum_by f (map g xs) ≡ sum_by (λ x. f (g x)) xs
sum_by-map f g [] = refl
sum_by-map f g (x ∷ xs) = omega (arith, sum_by-cons f (g x) (map g xs), sum_by-cons (λ y. f (g y)) x xs, sum_by-map f g xs)

-- one core more behind its old sum, all else the same
pub sum_below : (f g : ℕ → ℕ) (r a n : ℕ) → ((k : ℕ) → k ≢ r → g k ≡ f k) → r < a → sum_by g (numbers_from a n) ≡ sum_by f (numbers_from a n)
sum_below f g r a zero same below = refl
sum_below f g r a (suc n) same below =
    omega (arith, sum_by-cons f a (numbers_from (suc a) n), sum_by-cons g a (numbers_from (suc a) n), same a (λ e. omega (arith, e, below)), sum_below f g r (suc a) n same (omega (arith, below)))

pub sum_at : (f g : ℕ → ℕ) (r more a n : ℕ) → ((k : ℕ) → k ≢ r → g k ≡ f k) → g r ≡ f r + more → a ≤ r → r < a + n → sum_by g (numbers_from a n) ≡ sum_by f (numbers_from a n) + more
sum_at f g r more a zero same here low high = absurd (omega (arith, low, high))
sum_at f g r more a (suc n) same here low high =
    let split_f = sum_by-cons f a (numbers_from (suc a) n) in
    let split_g = sum_by-cons g a (numbers_from (suc a) n) in
    elim (cases_eq a r) [
      | inl e ↦
          let first : g a ≡ f a + more = subst (λ k. g k ≡ f k + more) (sym e) here in
          omega (arith, split_f, split_g, first, sum_below f g r (suc a) n same (omega (arith, e)))
      | inr apart ↦ omega (arith, split_f, split_g, same a apart, sum_at f g r more (suc a) n same here (omega (arith, low, apart)) (omega (arith, high)))
    ]

pub sum_beyond : (f g : ℕ → ℕ) (r a n : ℕ) → ((k : ℕ) → k ≢ r → g k ≡ f k) → a + n ≤ r → sum_by g (numbers_from a n) ≡ sum_by f (numbers_from a n)
sum_beyond f g r a zero same beyond = refl
sum_beyond f g r a (suc n) same beyond =
    omega (arith, sum_by-cons f a (numbers_from (suc a) n), sum_by-cons g a (numbers_from (suc a) n), same a (λ e. omega (arith, e, beyond)), sum_beyond f g r (suc a) n same (omega (arith, beyond)))

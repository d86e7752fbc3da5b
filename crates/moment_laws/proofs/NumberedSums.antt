-- Sums over places by the numbers of the places, of several rows of places in either order, and over a list.
use Rattle.std.proofs.Common.{◌≡◌, ◌≤◌, ◌+◌, ℕ, zero, suc, true, false, List, [], ◌∷◌, refl, arith, ap, sym, ◌∙◌, length}
use Rattle.std.specs.Prelude.{Option, Some, None, is_some, slice_get}
use Rattle.std.proofs.Math.Decide.{dec_le}
use Rattle.sched_model.specs.Places.{at_place}
use Rattle.sched_laws.proofs.Counts.{total_none}
use Rattle.sched_laws.specs.Counts.{total, over, total_over}

-- the first of the numbers, and the others
pub over_first : (n : ℕ) (f : ℕ → ℕ) → total_over (suc n) f ≡ f 0 + total_over n (λ k. f (suc k))
over_first zero f = omega arith
over_first (suc n) f = (let r = over_first n f in omega (arith, r))

pub over_none : (n : ℕ) → total_over n (λ k. 0) ≡ 0
over_none zero = refl
over_none (suc n) = (let r = over_none n in omega (arith, r))

pub over_sum : (n : ℕ) (f h : ℕ → ℕ) → total_over n (λ k. f k + h k) ≡ total_over n f + total_over n h
over_sum zero f h = refl
over_sum (suc n) f h = (let r = over_sum n f h in omega (arith, r))

-- places by their numbers
pub total_numbers : {X : Type 0} (f : X → ℕ) (places : List (Option X)) → total f places ≡ total_over (length places) (λ k. over f (at_place places k))
total_numbers f [] = refl
total_numbers {X} f (None ∷ places) =
    let whole : List (Option X) = None ∷ places in
    let r = total_numbers f places in
    let a = over_first (length places) (λ k. over f (at_place whole k)) in
    let s : length whole ≡ suc (length places) = grind arith in
    r ∙ sym (ap (λ n. total_over n (λ k. over f (at_place whole k))) s ∙ a ∙ omega arith)
total_numbers {X} f (Some x ∷ places) =
    let r = total_numbers f places in
    let a = over_first (length places) (λ k. over f (at_place (Some x ∷ places) k)) in
    let s : length (Some x ∷ places) ≡ suc (length places) = grind arith in
    ap (λ n. f x + n) r ∙ sym (ap (λ n. total_over n (λ k. over f (at_place (Some x ∷ places) k))) s ∙ a)

-- the sums in the other order
pub total_swapped : {X : Type 0} (n : ℕ) (f : X → ℕ → ℕ) (places : List (Option X)) → total (λ x. total_over n (f x)) places ≡ total_over n (λ k. total (λ x. f x k) places)
total_swapped n f [] = sym (over_none n)
total_swapped n f (None ∷ places) = total_swapped n f places
total_swapped n f (Some x ∷ places) = ap (λ k. total_over n (f x) + k) (total_swapped n f places) ∙ sym (over_sum n (f x) (λ k. total (λ y. f y k) places))

pub total_less : {X : Type 0} (f h : X → ℕ) (places : List (Option X)) → ((i : ℕ) (x : X) → at_place places i ≡ Some x → f x ≤ h x) → total f places ≤ total h places
total_less f h [] less = omega arith
total_less f h (None ∷ places) less = total_less f h places (λ i x at. less (suc i) x at)
total_less f h (Some x ∷ places) less = (let a = less 0 x refl in let r = total_less f h places (λ i y at. less (suc i) y at) in omega (arith, a, r))

-- at most b, where each is and no two places have something
pub total_most : {X : Type 0} (b : ℕ) (f : X → ℕ) (places : List (Option X)) → ((i : ℕ) (x : X) → at_place places i ≡ Some x → f x ≤ b)
    → ((i j : ℕ) (x y : X) → at_place places i ≡ Some x → at_place places j ≡ Some y → 1 ≤ f x → 1 ≤ f y → i ≡ j) → total f places ≤ b
total_most b f [] most apart = omega arith
total_most b f (None ∷ places) most apart = total_most b f places (λ i x at. most (suc i) x at) (λ i j x y at_i at_j p q. (let e = apart (suc i) (suc j) x y at_i at_j p q in omega (arith, e)))
total_most {X} b f (Some z ∷ places) most apart =
    elim (dec_le 1 (f z)) [
      | yes has ↦ (
          let none = total_none f places (λ i x at. zero_of (f x) (λ some. (let e = apart 0 (suc i) z x refl at has some in omega (arith, e)))) in
          let a = most 0 z refl in omega (arith, none, a))
      | no not_has ↦ (let r = total_most b f places (λ i x at. most (suc i) x at) (λ i j x y at_i at_j p q. (let e = apart (suc i) (suc j) x y at_i at_j p q in omega (arith, e))) in omega (arith, r, not_has))
    ]
  where
    zero_of : (n : ℕ) → (1 ≤ n → ⊥) → n ≡ 0
    zero_of zero none = refl
    zero_of (suc n) none = absurd (none (omega arith))

-- what is summed for each element of a list
pub over_list : {X : Type 0} (f : X → ℕ) (whole : ℕ → List X → ℕ) → ((k : ℕ) → whole k [] ≡ 0) → ((k : ℕ) (x : X) (xs : List X) → whole k (x ∷ xs) ≡ f x + whole (suc k) xs)
    → (k : ℕ) (xs : List X) → total_over (length xs) (λ d. over f (slice_get xs d)) ≡ whole k xs
over_list f whole none more k [] = sym (none k)
over_list f whole none more k (x ∷ xs) =
    let r = over_list f whole none more (suc k) xs in
    let a = over_first (length xs) (λ d. over f (slice_get (x ∷ xs) d)) in
    let s : length (x ∷ xs) ≡ suc (length xs) = grind arith in
    ap (λ n. total_over n (λ d. over f (slice_get (x ∷ xs) d))) s ∙ a ∙ ap (λ n. f x + n) r ∙ sym (more k x xs)

pub total_sum : {X : Type 0} (f h : X → ℕ) (places : List (Option X)) → total (λ x. f x + h x) places ≡ total f places + total h places
total_sum f h [] = refl
total_sum f h (None ∷ places) = total_sum f h places
total_sum f h (Some x ∷ places) = (let r = total_sum f h places in omega (arith, r))

pub place_some : {X : Type 0} (f : X → ℕ) (o : Option X) → 1 ≤ over f o → is_some o ≡ true
place_some f None some = absurd (omega (arith, some))
place_some f (Some x) some = refl

pub place_none : {X : Type 0} (f : X → ℕ) (o : Option X) → is_some o ≡ false → over f o ≡ 0
place_none f None none = refl
place_none f (Some x) none = absurd (cc)

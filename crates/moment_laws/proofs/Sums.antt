-- Sums over the cores, and what a change of one core does to them.
use Rattle.std.proofs.Common.{◌≡◌, ◌≢◌, ◌≤◌, ◌<◌, ◌+◌, ◌*◌, ℕ, zero, suc, Bool, true, false, List, [], ◌∷◌, refl, arith, ap, subst, sym, length}
use Rattle.std.specs.Prelude.{Option, Some, None, slice_get}
use Rattle.std.specs.List.{list_any, list_all}
use Rattle.std.proofs.Math.Decide.{ℕ_discrete}
use Rattle.std.proofs.Math.Nat.{mul-le-mul_left}
use Rattle.sched_model.specs.Places.{change_item}
use Rattle.sched_base.proofs.Bools.{or_left, or_right, and_left, and_right, one_if_most}
use Rattle.sched_model.specs.Places.{at_place}
use Rattle.sched_laws.specs.Counts.{total, total_over}
use Rattle.moment_laws.specs.Turns.{how_many}
use Rattle.sched_base.specs.Numbers.{one_if}

-- b, so many times
abbrev pub many : ℕ → ℕ → ℕ
many zero b = 0
many (suc n) b = many n b + b

pub many_is : (n b : ℕ) → many n b ≡ b * n
many_is zero b = grind arith
many_is (suc n) b = (let r = many_is n b in grind (arith, r))

pub many_none : (n : ℕ) → many n 0 ≡ 0
many_none zero = refl
many_none (suc n) = (let r = many_none n in omega (arith, r))

pub total_at_most : (n b : ℕ) (f : ℕ → ℕ) → ((r : ℕ) → r < n → f r ≤ b) → total_over n f ≤ many n b
total_at_most zero b f each = omega arith
total_at_most (suc n) b f each =
    let a = total_at_most n b f (λ r low. each r (omega (arith, low))) in
    let c = each n (omega arith) in
    omega (arith, a, c)

-- where each grows by b at most
pub grows : (n b : ℕ) (f h : ℕ → ℕ) → ((r : ℕ) → r < n → h r ≤ f r + b) → total_over n h ≤ total_over n f + many n b
grows zero b f h each = omega arith
grows (suc n) b f h each =
    let a = grows n b f h (λ r low. each r (omega (arith, low))) in
    let c = each n (omega arith) in
    omega (arith, a, c)

-- where one of them falls, and the others grow by b at most
pub falls : (n b drop i : ℕ) (f h : ℕ → ℕ) → i < n → h i + drop ≤ f i + b → ((r : ℕ) → r ≢ i → h r ≤ f r + b) → total_over n h + drop ≤ total_over n f + many n b
falls zero b drop i f h low own others = absurd (omega (arith, low))
falls (suc n) b drop i f h low own others =
    elim (ℕ_discrete i n) [
      | yes e ↦ (
          let a = grows n b f h (λ r below. others r (omega (arith, below, e))) in
          let c : h n + drop ≤ f n + b = subst (λ k. h k + drop ≤ f k + b) e own in
          omega (arith, a, c))
      | no ne ↦ (
          let a = falls n b drop i f h (omega (arith, low, ne)) own others in
          let c = others n (omega (arith, ne)) in
          omega (arith, a, c))
    ]

pub how_many_most : {X : Type 0} (test : X → Bool) (xs : List X) → how_many test xs ≤ length xs
how_many_most test [] = grind arith
how_many_most test (x ∷ xs) = (let r = how_many_most test xs in let o = one_if_most (test x) in grind (arith, r, o))

pub how_many_changed : {X : Type 0} (test : X → Bool) (i : ℕ) (f : X → X) (xs : List X) (x : X) → slice_get xs i ≡ Some x → how_many test (change_item i f xs) + one_if (test x) ≡ how_many test xs + one_if (test (f x))
how_many_changed test i f [] x at = absurd (cc)
how_many_changed {X} test zero f (y ∷ xs) x at = (let e : y ≡ x = cc in subst (λ (z : X). (one_if (test (f y)) + how_many test xs) + one_if (test z) ≡ (one_if (test y) + how_many test xs) + one_if (test (f z))) e (omega arith))
how_many_changed test (suc i) f (y ∷ xs) x at = (let r = how_many_changed test i f xs x at in omega (arith, r))

pub how_many_none : {X : Type 0} (test : X → Bool) (xs : List X) → list_any test xs ≡ false → how_many test xs ≡ 0
how_many_none test [] none = refl
how_many_none test (x ∷ xs) none =
    let a = or_left (test x) (list_any test xs) none in
    let r = how_many_none test xs (or_right (test x) (list_any test xs) none) in
    rw (a, r) refl

pub how_many_all : {X : Type 0} (test : X → Bool) (xs : List X) → list_all test xs ≡ true → how_many test xs ≡ length xs
how_many_all test [] all = grind arith
how_many_all test (x ∷ xs) all =
    let a = and_left (test x) (list_all test xs) all in
    let r = how_many_all test xs (and_right (test x) (list_all test xs) all) in
    rw (a, r) (grind arith)

-- a weight times numbers of which one is less
pub weighs_less : (w a b : ℕ) → a + 1 ≤ b → w * a + w ≤ w * b
weighs_less w a b less =
    let e : w * a + w ≡ w * (a + 1) = grind arith in
    rw e (mul-le-mul_left w less)

pub weighs_no_more : (w a b : ℕ) → a ≤ b → w * a ≤ w * b
weighs_no_more w a b le = mul-le-mul_left w le

-- counting those that pass, where fewer do
pub count_no_more : {X : Type 0} (p q : X → Bool) → ((x : X) → p x ≡ true → q x ≡ true) → (xs : List X) → how_many p xs ≤ how_many q xs
count_no_more p q to [] = omega arith
count_no_more p q to (x ∷ xs) = (let r = count_no_more p q to xs in let o = one_less (p x) (q x) (to x) in omega (arith, r, o))
  where
    one_less : (a b : Bool) → (a ≡ true → b ≡ true) → one_if a ≤ one_if b
    one_less true true t = omega arith
    one_less true false t = absurd (let e = t refl in cc)
    one_less false b t = omega arith

pub count_less : {X : Type 0} (p q : X → Bool) → ((x : X) → p x ≡ true → q x ≡ true) → (xs : List X) (n : ℕ) (x : X) → slice_get xs n ≡ Some x → q x ≡ true → p x ≡ false → how_many p xs + 1 ≤ how_many q xs
count_less p q to [] n x at passes fails = absurd (cc)
count_less {X} p q to (y ∷ xs) zero x at passes fails = (
    let e : y ≡ x = cc in
    let a : one_if (p y) ≡ 0 = ap one_if (subst (λ z. p z ≡ false) (sym e) fails) in
    let b : one_if (q y) ≡ 1 = ap one_if (subst (λ z. q z ≡ true) (sym e) passes) in
    let r = count_no_more p q to xs in
    omega (arith, a, b, r))
count_less p q to (y ∷ xs) (suc n) x at passes fails = (
    let r = count_less p q to xs n x at passes fails in
    let o = count_no_more p q to (y ∷ []) in
    omega (arith, r, o))

pub total_no_more : {X : Type 0} (f h : X → ℕ) → ((x : X) → f x ≤ h x) → (places : List (Option X)) → total f places ≤ total h places
total_no_more f h le [] = omega arith
total_no_more f h le (None ∷ places) = total_no_more f h le places
total_no_more f h le (Some x ∷ places) = (let r = total_no_more f h le places in let o = le x in omega (arith, r, o))

pub total_less : {X : Type 0} (f h : X → ℕ) → ((x : X) → f x ≤ h x) → (places : List (Option X)) (d : ℕ) (x : X) → at_place places d ≡ Some x → f x + 1 ≤ h x → total f places + 1 ≤ total h places
total_less f h le [] d x at less = absurd (cc)
total_less f h le (None ∷ places) zero x at less = absurd (cc)
total_less {X} f h le (Some y ∷ places) zero x at less = (
    let e : y ≡ x = cc in
    let l : f y + 1 ≤ h y = subst (λ (z : X). f z + 1 ≤ h z) (sym e) less in
    let r = total_no_more f h le places in
    omega (arith, l, r))
total_less f h le (None ∷ places) (suc d) x at less = total_less f h le places d x at less
total_less f h le (Some y ∷ places) (suc d) x at less = (let r = total_less f h le places d x at less in let o = le y in omega (arith, r, o))

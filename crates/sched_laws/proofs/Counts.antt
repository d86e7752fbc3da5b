-- How often something stands in a list and at places.
use Rattle.std.proofs.Common.{◌≡◌, ◌≢◌, ◌<◌, ◌≤◌, ◌+◌, ℕ, zero, suc, Bool, true, false, List, [], ◌∷◌, ◌++◌, refl, arith, subst, sym, ◌∙◌, ap, cond}
use Rattle.std.specs.Prelude.{Option, Some, None, filter, sum_by, count_by, ◌||◌, not}
use Rattle.std.proofs.lemmas.Bool.{or_from}
use Rattle.sched_base.proofs.Bools.{or_left, or_right}
use Rattle.std.specs.List.{list_any, AllByRecursion}
use Rattle.std.proofs.lemmas.List.Sums.{sum_by-cons}
use Rattle.std.proofs.Math.Decide.{dec_le}
use Rattle.sched_base.specs.declared.UnitId.{UnitId}
use Rattle.sched_model.specs.Places.{at_place, put_at, clear_at, change_at, change_each, numbered_items, has_listed_unit, without_unit, is_unit, same_unit}
use Rattle.sched_laws.specs.EachPlace.{EachPlace}
use Rattle.sched_laws.proofs.Choices.{same_unit_same}
use Rattle.sched_laws.specs.Counts.{total, total_over, one, times}

pub total_is : {X : Type 0} (f : X → ℕ) (n : ℕ) (places : List (Option X)) → sum_by (λ (e : ℕ × X). f e.1) (numbered_items n places) ≡ total f places
total_is f n [] = refl
total_is f n (None ∷ places) = total_is f (suc n) places
total_is {X} f n (Some x ∷ places) = sum_by-cons (λ (e : ℕ × X). f e.1) (n, x) (numbered_items (suc n) places) ∙ ap (λ k. f x + k) (total_is f (suc n) places)

-- a sum of numbers that are at most others
pub total_over_le : (n : ℕ) (f g : ℕ → ℕ) → ((r : ℕ) → r < n → f r ≤ g r) → total_over n f ≤ total_over n g
total_over_le zero f g below = omega arith
total_over_le (suc n) f g below =
    let a = total_over_le n f g (λ r low. below r (omega (arith, low))) in
    let b = below n (omega arith) in
    omega (arith, a, b)

module _ {X : Type 0} (f : X → ℕ) where
  pub total-change_at : (i : ℕ) (h : X → X) (places : List (Option X)) (x : X) → at_place places i ≡ Some x → total f (change_at i h places) + f x ≡ total f places + f (h x)
  total-change_at i h [] x at = absurd (cc)
  total-change_at zero h (None ∷ places) x at = absurd (cc)
  total-change_at zero h (Some y ∷ places) x at = (let e : y ≡ x = cc in subst (λ (z : X). (f (h y) + total f places) + f z ≡ (f y + total f places) + f (h z)) e (omega arith))
  total-change_at (suc i) h (None ∷ places) x at = total-change_at i h places x at
  total-change_at (suc i) h (Some y ∷ places) x at = (let r = total-change_at i h places x at in omega (arith, r))

  pub total-change_at_same : (i : ℕ) (h : X → X) (places : List (Option X)) → ((x : X) → at_place places i ≡ Some x → f (h x) ≡ f x) → total f (change_at i h places) ≡ total f places
  total-change_at_same i h [] same = refl
  total-change_at_same zero h (None ∷ places) same = refl
  total-change_at_same zero h (Some y ∷ places) same = ap (λ k. k + total f places) (same y refl)
  total-change_at_same (suc i) h (None ∷ places) same = total-change_at_same i h places same
  total-change_at_same (suc i) h (Some y ∷ places) same = ap (λ k. f y + k) (total-change_at_same i h places same)

  pub total-change_each : (n : ℕ) (h : ℕ → X → X) (places : List (Option X)) → ((n : ℕ) (x : X) → f (h n x) ≡ f x) → total f (change_each n h places) ≡ total f places
  total-change_each n h [] same = refl
  total-change_each n h (None ∷ places) same = total-change_each (suc n) h places same
  total-change_each n h (Some y ∷ places) same = rw (same n y) (ap (λ k. f y + k) (total-change_each (suc n) h places same))

  pub total-put_at : (i : ℕ) (x y : X) (places : List (Option X)) → at_place places i ≡ Some y → total f (put_at i x places) + f y ≡ total f places + f x
  total-put_at i x y [] at = absurd (cc)
  total-put_at zero x y (None ∷ places) at = absurd (cc)
  total-put_at zero x y (Some z ∷ places) at = (let e : z ≡ y = cc in subst (λ (w : X). (f x + total f places) + f w ≡ (f z + total f places) + f x) e (omega arith))
  total-put_at (suc i) x y (None ∷ places) at = total-put_at i x y places at
  total-put_at (suc i) x y (Some z ∷ places) at = (let r = total-put_at i x y places at in omega (arith, r))

  pub total-put_at_empty : (i : ℕ) (x : X) (places : List (Option X)) → at_place places i ≡ None → f x ≡ 0 → total f (put_at i x places) ≡ total f places
  total-put_at_empty zero x [] at none = refl
  total-put_at_empty (suc i) x [] at none = refl
  total-put_at_empty zero x (None ∷ places) at none = omega (arith, none)
  total-put_at_empty zero x (Some z ∷ places) at none = absurd (cc)
  total-put_at_empty (suc i) x (None ∷ places) at none = total-put_at_empty i x places at none
  total-put_at_empty (suc i) x (Some z ∷ places) at none = ap (λ k. f z + k) (total-put_at_empty i x places at none)

  pub total-clear_at : (i : ℕ) (x : X) (places : List (Option X)) → at_place places i ≡ Some x → total f (clear_at i places) + f x ≡ total f places
  total-clear_at i x [] at = absurd (cc)
  total-clear_at zero x (None ∷ places) at = absurd (cc)
  total-clear_at zero x (Some z ∷ places) at = (let e : z ≡ x = cc in subst (λ (w : X). total f places + f w ≡ f z + total f places) e (omega arith))
  total-clear_at (suc i) x (None ∷ places) at = total-clear_at i x places at
  total-clear_at (suc i) x (Some z ∷ places) at = (let r = total-clear_at i x places at in omega (arith, r))

  pub total_at : (i : ℕ) (x : X) (places : List (Option X)) → at_place places i ≡ Some x → f x ≤ total f places
  total_at i x [] at = absurd (cc)
  total_at zero x (None ∷ places) at = absurd (cc)
  total_at zero x (Some z ∷ places) at = (let e : z ≡ x = cc in subst (λ (w : X). f w ≤ f z + total f places) e (omega arith))
  total_at (suc i) x (None ∷ places) at = total_at i x places at
  total_at (suc i) x (Some z ∷ places) at = (let r = total_at i x places at in omega (arith, r))

  -- of two places
  pub total_two : (i j : ℕ) (x y : X) (places : List (Option X)) → i ≢ j → at_place places i ≡ Some x → at_place places j ≡ Some y → f x + f y ≤ total f places
  total_two i j x y [] other at_i at_j = absurd (cc)
  total_two zero zero x y (p ∷ places) other at_i at_j = absurd (other refl)
  total_two zero (suc j) x y (None ∷ places) other at_i at_j = absurd (cc)
  total_two zero (suc j) x y (Some z ∷ places) other at_i at_j = (let e : z ≡ x = cc in let r = total_at j y places at_j in subst (λ (w : X). f w + f y ≤ f z + total f places) e (omega (arith, r)))
  total_two (suc i) zero x y (None ∷ places) other at_i at_j = absurd (cc)
  total_two (suc i) zero x y (Some z ∷ places) other at_i at_j = (let e : z ≡ y = cc in let r = total_at i x places at_i in subst (λ (w : X). f x + f w ≤ f z + total f places) e (omega (arith, r)))
  total_two (suc i) (suc j) x y (None ∷ places) other at_i at_j = total_two i j x y places (λ e. other (ap suc e)) at_i at_j
  total_two (suc i) (suc j) x y (Some z ∷ places) other at_i at_j = (let r = total_two i j x y places (λ e. other (ap suc e)) at_i at_j in omega (arith, r))

  pub total_none : (places : List (Option X)) → EachPlace (λ x. f x ≡ 0) places → total f places ≡ 0
  total_none [] each = refl
  total_none (None ∷ places) each = total_none places (λ i x at. each (suc i) x at)
  total_none (Some y ∷ places) each = (let a = each 0 y refl in let b = total_none places (λ i x at. each (suc i) x at) in omega (arith, a, b))

  -- where it is not 0, some place has it
  pub total_some : (places : List (Option X)) → 1 ≤ total f places → (i : ℕ) × (x : X) × (at_place places i ≡ Some x) × (1 ≤ f x)
  total_some [] some = absurd (omega (arith, some))
  total_some (None ∷ places) some = (let r = total_some places some in (suc r.0, r.1, r.2, r.3))
  total_some (Some y ∷ places) some = by_size (f y) refl (λ rest. total_some places rest)
    where
      by_size : (k : ℕ) → f y ≡ k → (1 ≤ total f places → (i : ℕ) × (x : X) × (at_place places i ≡ Some x) × (1 ≤ f x)) → (i : ℕ) × (x : X) × (at_place (Some y ∷ places) i ≡ Some x) × (1 ≤ f x)
      by_size zero e rest = (let r = rest (omega arith) in (suc r.0, r.1, r.2, r.3))
      by_size (suc k) e rest = (0, y, refl, omega arith)

-- at most one, where no two places have something
pub total_one : {X : Type 0} (f : X → ℕ) (places : List (Option X)) → ((i : ℕ) (x : X) → at_place places i ≡ Some x → f x ≤ 1)
    → ((i j : ℕ) (x y : X) → at_place places i ≡ Some x → at_place places j ≡ Some y → 1 ≤ f x → 1 ≤ f y → i ≡ j) → total f places ≤ 1
total_one f [] most apart = omega arith
total_one f (None ∷ places) most apart = total_one f places (λ i x at. most (suc i) x at) (λ i j x y at_i at_j a b. (let e = apart (suc i) (suc j) x y at_i at_j a b in omega (arith, e)))
total_one {X} f (Some z ∷ places) most apart =
    elim (dec_le 1 (f z)) [
      | yes has ↦ (
          let none = total_none f places (λ i x at. zero_of (f x) (λ some. (let e = apart 0 (suc i) z x refl at has some in omega (arith, e)))) in
          let a = most 0 z refl in omega (arith, none, a))
      | no not_has ↦ (let r = total_one f places (λ i x at. most (suc i) x at) (λ i j x y at_i at_j a b. (let e = apart (suc i) (suc j) x y at_i at_j a b in omega (arith, e))) in omega (arith, r, not_has))
    ]
  where
    zero_of : (n : ℕ) → (1 ≤ n → ⊥) → n ≡ 0
    zero_of zero none = refl
    zero_of (suc n) none = absurd (none (omega arith))

-- what is found among what is numbered
pub some_numbered : {X : Type 0} (test : X → Bool) (n : ℕ) (places : List (Option X)) → list_any (λ (e : ℕ × X). test e.1) (numbered_items n places) ≡ true → (i : ℕ) × (x : X) × (at_place places i ≡ Some x) × (test x ≡ true)
some_numbered test n [] found = absurd (cc)
some_numbered test n (None ∷ places) found = (let r = some_numbered test (suc n) places found in (suc r.0, r.1, r.2, r.3))
some_numbered {X} test n (Some y ∷ places) found =
    elim (test y) as (λ b. test y ≡ b → (b || list_any (λ (e : ℕ × X). test e.1) (numbered_items (suc n) places)) ≡ true → (i : ℕ) × (x : X) × (at_place (Some y ∷ places) i ≡ Some x) × (test x ≡ true)) [
      | true ↦ λ is e. (0, y, refl, is)
      | false ↦ λ is e. (let r = some_numbered test (suc n) places e in (suc r.0, r.1, r.2, r.3))
    ] refl found

pub same_unit_refl : (u : UnitId) → same_unit u u ≡ true
same_unit_refl u = grind arith

pub is_that_unit : (o : Option UnitId) (u : UnitId) → o ≡ Some u → is_unit o u ≡ true
is_that_unit o u is = ap (λ (x : Option UnitId). is_unit x u) is ∙ same_unit_refl u

pub same_unit_other : (u w : UnitId) → same_unit u w ≡ false → u ≢ w
same_unit_other u w other e = (let same : same_unit u w ≡ true = subst (λ (x : UnitId). same_unit u x ≡ true) e (same_unit_refl u) in cc)

pub times_is : (u : UnitId) (units : List UnitId) → count_by (same_unit u) units ≡ times u units
times_is u [] = refl
times_is u (w ∷ units) = sum_by-cons (λ (x : UnitId). cond (same_unit u x) 1 0) w units ∙ ap (λ k. one u w + k) (times_is u units)

pub times-push : (u w : UnitId) (units : List UnitId) → times u (units ++ w ∷ []) ≡ times u units + one u w
times-push u w [] = omega arith
times-push u w (x ∷ units) = (let r = times-push u w units in omega (arith, r))

-- of a list that is filtered
pub times-filter_yes : (u : UnitId) (test : UnitId → Bool) (units : List UnitId) → test u ≡ true → times u (filter test units) ≡ times u units
times-filter_yes u test [] passes = refl
times-filter_yes u test (w ∷ units) passes =
    elim (test w) as (λ b. test w ≡ b → times u (cond b (w ∷ filter test units) (filter test units)) ≡ one u w + times u units) [
      | true ↦ λ is. ap (λ k. one u w + k) (times-filter_yes u test units passes)
      | false ↦ λ is. times-filter_yes u test units passes ∙ not_there is
    ] refl
  where
    not_there : test w ≡ false → times u units ≡ one u w + times u units
    not_there is =
        elim (same_unit u w) as (λ b. same_unit u w ≡ b → times u units ≡ cond b 1 0 + times u units) [
          | true ↦ λ same. absurd (let e : test w ≡ true = subst (λ (x : UnitId). test x ≡ true) (same_unit_same u w same) passes in cc)
          | false ↦ λ same. omega arith
        ] refl

pub times-filter_no : (u : UnitId) (test : UnitId → Bool) (units : List UnitId) → test u ≡ false → times u (filter test units) ≡ 0
times-filter_no u test [] fails = refl
times-filter_no u test (w ∷ units) fails =
    elim (test w) as (λ b. test w ≡ b → times u (cond b (w ∷ filter test units) (filter test units)) ≡ 0) [
      | true ↦ λ is. there is (times-filter_no u test units fails)
      | false ↦ λ is. times-filter_no u test units fails
    ] refl
  where
    there : test w ≡ true → times u (filter test units) ≡ 0 → one u w + times u (filter test units) ≡ 0
    there is rest =
        elim (same_unit u w) as (λ b. same_unit u w ≡ b → cond b 1 0 + times u (filter test units) ≡ 0) [
          | true ↦ λ same. absurd (let e : test u ≡ true = subst (λ (x : UnitId). test x ≡ true) (sym (same_unit_same u w same)) is in cc)
          | false ↦ λ same. omega (arith, rest)
        ] refl

-- a unit that is in no element has no place, and one that is there has what each has
pub times_none : (u : UnitId) (units : List UnitId) → has_listed_unit units u ≡ false → times u units ≡ 0
times_none u [] none = refl
times_none u (w ∷ units) none =
    elim (same_unit u w) as (λ b. (b || has_listed_unit units u) ≡ false → cond b 1 0 + times u units ≡ 0) [
      | true ↦ λ e. absurd (cc)
      | false ↦ λ e. (let r = times_none u units e in omega (arith, r))
    ] none

pub times_some : (u : UnitId) (units : List UnitId) → has_listed_unit units u ≡ true → 1 ≤ times u units
times_some u [] some = absurd (cc)
times_some u (w ∷ units) some =
    elim (same_unit u w) as (λ b. (b || has_listed_unit units u) ≡ true → 1 ≤ cond b 1 0 + times u units) [
      | true ↦ λ e. omega arith
      | false ↦ λ e. (let r = times_some u units e in omega (arith, r))
    ] some

pub times_has : (P : UnitId → Type 0) (u : UnitId) (units : List UnitId) → AllByRecursion P units → 1 ≤ times u units → P u
times_has P u [] each some = absurd (omega (arith, some))
times_has P u (w ∷ units) each some =
    elim (same_unit u w) as (λ b. same_unit u w ≡ b → 1 ≤ cond b 1 0 + times u units → P u) [
      | true ↦ λ is e. subst P (sym (same_unit_same u w is)) each.0
      | false ↦ λ is e. times_has P u units each.1 (omega (arith, e))
    ] refl some

-- a queue without a unit that does not wait is the same, and one that a unit left has it no more
pub without_absent : (u : UnitId) (units : List UnitId) → has_listed_unit units u ≡ false → without_unit u units ≡ units
without_absent u [] absent = refl
without_absent u (x ∷ units) absent =
    let e : same_unit u x ≡ false = or_left _ _ absent in
    rw e (ap (λ (xs : List UnitId). x ∷ xs) (without_absent u units (or_right (same_unit u x) _ absent)))

pub gone_without : (u : UnitId) (units : List UnitId) → has_listed_unit (without_unit u units) u ≡ false
gone_without u [] = refl
gone_without u (x ∷ units) =
    elim (same_unit u x) as (λ b. same_unit u x ≡ b → has_listed_unit (cond (not b) (x ∷ without_unit u units) (without_unit u units)) u ≡ false) [
      | true ↦ λ is. gone_without u units
      | false ↦ λ is. or_from (same_unit u x) (has_listed_unit (without_unit u units) u) is (gone_without u units)
    ] refl

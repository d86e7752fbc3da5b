-- Sums over the records of all units of an RTDS pool.
use Rattle.std.proofs.Common.{◌≡◌, ◌≤◌, ◌+◌, ℕ, zero, suc, List, [], ◌∷◌, refl, arith, subst, ◌∙◌, ap}
use Rattle.std.specs.Prelude.{Option, Some, None, slice_get}
use Rattle.sched_base.specs.Numbers.{domain as domain_number}
use Rattle.sched_base.specs.declared.UnitId.{UnitId}
use Rattle.sched_model.specs.declared.state.RtdsUnit.{RtdsUnit}
use Rattle.sched_model.specs.Places.{change_at, change_item}
use Rattle.sched_model.specs.EligibleUnits.{rtds_unit_at}
use Rattle.sched_model.specs.Rtds.{change_unit}

abbrev pub number : ℕ → ℕ → UnitId
number d n = record { dom = domain_number d; n = n }

-- of the domain d, whose first record is that of the unit n; and of all, the first of them with the number d
abbrev pub items_sum : (UnitId → RtdsUnit → ℕ) → ℕ → ℕ → List RtdsUnit → ℕ
items_sum f d n [] = 0
items_sum f d n (x ∷ xs) = f (number d n) x + items_sum f d (suc n) xs

abbrev pub sum_from : (UnitId → RtdsUnit → ℕ) → ℕ → List (Option (List RtdsUnit)) → ℕ
sum_from f d [] = 0
sum_from f d (None ∷ domains) = sum_from f (suc d) domains
sum_from f d (Some xs ∷ domains) = items_sum f d 0 xs + sum_from f (suc d) domains

abbrev pub units_sum : (UnitId → RtdsUnit → ℕ) → List (Option (List RtdsUnit)) → ℕ
units_sum f domains = sum_from f 0 domains

module _ (f h : UnitId → RtdsUnit → ℕ) where
  -- where each is at most another
  items_le : (d n : ℕ) (xs : List RtdsUnit) → ((k : ℕ) (x : RtdsUnit) → slice_get xs k ≡ Some x → f (number d (n + k)) x ≤ h (number d (n + k)) x) → items_sum f d n xs ≤ items_sum h d n xs
  items_le d n [] each = omega arith
  items_le d n (x ∷ xs) each =
      let e : n + 0 ≡ n = omega arith in
      let here : f (number d n) x ≤ h (number d n) x = subst (λ (k : ℕ). f (number d k) x ≤ h (number d k) x) e (each 0 x refl) in
      let rest = items_le d (suc n) xs (λ k y at. (let e2 : n + suc k ≡ suc n + k = omega arith in subst (λ (j : ℕ). f (number d j) y ≤ h (number d j) y) e2 (each (suc k) y at))) in
      omega (arith, here, rest)

  sums_le : (d : ℕ) (domains : List (Option (List RtdsUnit))) → ((j n : ℕ) (x : RtdsUnit) → rtds_unit_at domains (number j n) ≡ Some x → f (number (d + j) n) x ≤ h (number (d + j) n) x) → sum_from f d domains ≤ sum_from h d domains
  sums_le d [] each = omega arith
  sums_le d (None ∷ domains) each = sums_le (suc d) domains (λ j n x at. (let e : d + suc j ≡ suc d + j = omega arith in subst (λ (k : ℕ). f (number k n) x ≤ h (number k n) x) e (each (suc j) n x at)))
  sums_le d (Some xs ∷ domains) each =
      let here = items_le d 0 xs (λ k x at. (let e : d + 0 ≡ d = omega arith in let e2 : k ≡ 0 + k = omega arith in subst (λ (j : ℕ). f (number d j) x ≤ h (number d j) x) e2 (subst (λ (j : ℕ). f (number j k) x ≤ h (number j k) x) e (each 0 k x at)))) in
      let rest = sums_le (suc d) domains (λ j n x at. (let e : d + suc j ≡ suc d + j = omega arith in subst (λ (k : ℕ). f (number k n) x ≤ h (number k n) x) e (each (suc j) n x at))) in
      omega (arith, here, rest)

  pub sum_le : (domains : List (Option (List RtdsUnit))) → ((u : UnitId) (x : RtdsUnit) → rtds_unit_at domains u ≡ Some x → f u x ≤ h u x) → units_sum f domains ≤ units_sum h domains
  sum_le domains each = sums_le 0 domains (λ j n x at. (let e : j ≡ 0 + j = omega arith in subst (λ (k : ℕ). f (number k n) x ≤ h (number k n) x) e (each (number j n) x at)))

  -- and one of them less by c
  module _ (c : ℕ) where
    items_gain : (d n k : ℕ) (xs : List RtdsUnit) (y : RtdsUnit) → slice_get xs k ≡ Some y → f (number d (n + k)) y + c ≤ h (number d (n + k)) y → ((j : ℕ) (x : RtdsUnit) → slice_get xs j ≡ Some x → f (number d (n + j)) x ≤ h (number d (n + j)) x) → items_sum f d n xs + c ≤ items_sum h d n xs
    items_gain d n k [] y at gain each = absurd (cc)
    items_gain d n zero (x ∷ xs) y at gain each =
        let same : y ≡ x = cc in
        let e : n + 0 ≡ n = omega arith in
        let here : f (number d n) x + c ≤ h (number d n) x = subst (λ (k : ℕ). f (number d k) x + c ≤ h (number d k) x) e (subst (λ (z : RtdsUnit). f (number d (n + 0)) z + c ≤ h (number d (n + 0)) z) same gain) in
        let rest = items_le d (suc n) xs (λ k z there. (let e2 : n + suc k ≡ suc n + k = omega arith in subst (λ (j : ℕ). f (number d j) z ≤ h (number d j) z) e2 (each (suc k) z there))) in
        omega (arith, here, rest)
    items_gain d n (suc k) (x ∷ xs) y at gain each =
        let e : n + 0 ≡ n = omega arith in
        let e2 : n + suc k ≡ suc n + k = omega arith in
        let here : f (number d n) x ≤ h (number d n) x = subst (λ (j : ℕ). f (number d j) x ≤ h (number d j) x) e (each 0 x refl) in
        let rest = items_gain d (suc n) k xs y at (subst (λ (j : ℕ). f (number d j) y + c ≤ h (number d j) y) e2 gain) (λ j z there. (let e3 : n + suc j ≡ suc n + j = omega arith in subst (λ (i : ℕ). f (number d i) z ≤ h (number d i) z) e3 (each (suc j) z there))) in
        omega (arith, here, rest)

    sums_gain : (d i n : ℕ) (domains : List (Option (List RtdsUnit))) (y : RtdsUnit) → rtds_unit_at domains (number i n) ≡ Some y → f (number (d + i) n) y + c ≤ h (number (d + i) n) y
        → ((j k : ℕ) (x : RtdsUnit) → rtds_unit_at domains (number j k) ≡ Some x → f (number (d + j) k) x ≤ h (number (d + j) k) x) → sum_from f d domains + c ≤ sum_from h d domains
    sums_gain d i n [] y at gain each = absurd (cc)
    sums_gain d zero n (None ∷ domains) y at gain each = absurd (cc)
    sums_gain d (suc i) n (None ∷ domains) y at gain each =
        let e : d + suc i ≡ suc d + i = omega arith in
        sums_gain (suc d) i n domains y at (subst (λ (k : ℕ). f (number k n) y + c ≤ h (number k n) y) e gain) (λ j k x there. (let e2 : d + suc j ≡ suc d + j = omega arith in subst (λ (q : ℕ). f (number q k) x ≤ h (number q k) x) e2 (each (suc j) k x there)))
    sums_gain d zero n (Some xs ∷ domains) y at gain each =
        let e : d + 0 ≡ d = omega arith in
        let e0 : n ≡ 0 + n = omega arith in
        let here = items_gain d 0 n xs y at (subst (λ (j : ℕ). f (number d j) y + c ≤ h (number d j) y) e0 (subst (λ (j : ℕ). f (number j n) y + c ≤ h (number j n) y) e gain)) (λ k x there. (let e2 : k ≡ 0 + k = omega arith in subst (λ (j : ℕ). f (number d j) x ≤ h (number d j) x) e2 (subst (λ (j : ℕ). f (number j k) x ≤ h (number j k) x) e (each 0 k x there)))) in
        let rest = sums_le (suc d) domains (λ j k x there. (let e2 : d + suc j ≡ suc d + j = omega arith in subst (λ (q : ℕ). f (number q k) x ≤ h (number q k) x) e2 (each (suc j) k x there))) in
        omega (arith, here, rest)
    sums_gain d (suc i) n (Some xs ∷ domains) y at gain each =
        let e : d + suc i ≡ suc d + i = omega arith in
        let e0 : d + 0 ≡ d = omega arith in
        let here = items_le d 0 xs (λ k x there. (let e2 : k ≡ 0 + k = omega arith in subst (λ (j : ℕ). f (number d j) x ≤ h (number d j) x) e2 (subst (λ (j : ℕ). f (number j k) x ≤ h (number j k) x) e0 (each 0 k x there)))) in
        let rest = sums_gain (suc d) i n domains y at (subst (λ (k : ℕ). f (number k n) y + c ≤ h (number k n) y) e gain) (λ j k x there. (let e2 : d + suc j ≡ suc d + j = omega arith in subst (λ (q : ℕ). f (number q k) x ≤ h (number q k) x) e2 (each (suc j) k x there))) in
        omega (arith, here, rest)

    pub sum_gain : (u : UnitId) (domains : List (Option (List RtdsUnit))) (y : RtdsUnit) → rtds_unit_at domains u ≡ Some y → f u y + c ≤ h u y → ((v : UnitId) (x : RtdsUnit) → rtds_unit_at domains v ≡ Some x → f v x ≤ h v x) → units_sum f domains + c ≤ units_sum h domains
    sum_gain u domains y at gain each =
        let e : u.dom.0 ≡ 0 + u.dom.0 = omega arith in
        sums_gain 0 u.dom.0 u.n domains y at (subst (λ (k : ℕ). f (number k u.n) y + c ≤ h (number k u.n) y) e gain) (λ j n x there. (let e2 : j ≡ 0 + j = omega arith in subst (λ (k : ℕ). f (number k n) x ≤ h (number k n) x) e2 (each (number j n) x there)))

-- one record changed
module _ (f : UnitId → RtdsUnit → ℕ) (change : RtdsUnit → RtdsUnit) where
  items_change : (d n k : ℕ) (xs : List RtdsUnit) (y : RtdsUnit) → slice_get xs k ≡ Some y → items_sum f d n (change_item k change xs) + f (number d (n + k)) y ≡ items_sum f d n xs + f (number d (n + k)) (change y)
  items_change d n k [] y at = absurd (cc)
  items_change d n zero (x ∷ xs) y at =
      let same : x ≡ y = cc in
      let e : n ≡ n + 0 = omega arith in
      let a : f (number d n) x ≡ f (number d (n + 0)) y = ap (λ (j : ℕ). f (number d j) x) e ∙ ap (λ (z : RtdsUnit). f (number d (n + 0)) z) same in
      let b : f (number d n) (change x) ≡ f (number d (n + 0)) (change y) = ap (λ (j : ℕ). f (number d j) (change x)) e ∙ ap (λ (z : RtdsUnit). f (number d (n + 0)) (change z)) same in
      omega (arith, a, b)
  items_change d n (suc k) (x ∷ xs) y at =
      let r = items_change d (suc n) k xs y at in
      let e : suc n + k ≡ n + suc k = omega arith in
      let a : f (number d (suc n + k)) y ≡ f (number d (n + suc k)) y = ap (λ (j : ℕ). f (number d j) y) e in
      let b : f (number d (suc n + k)) (change y) ≡ f (number d (n + suc k)) (change y) = ap (λ (j : ℕ). f (number d j) (change y)) e in
      omega (arith, r, a, b)

  sums_change : (d j n : ℕ) (domains : List (Option (List RtdsUnit))) (y : RtdsUnit) → rtds_unit_at domains (number j n) ≡ Some y → sum_from f d (change_at j (change_item n change) domains) + f (number (d + j) n) y ≡ sum_from f d domains + f (number (d + j) n) (change y)
  sums_change d j n [] y at = absurd (cc)
  sums_change d zero n (None ∷ domains) y at = absurd (cc)
  sums_change d (suc j) n (None ∷ domains) y at =
      let e : suc d + j ≡ d + suc j = omega arith in
      subst (λ (k : ℕ). sum_from f (suc d) (change_at j (change_item n change) domains) + f (number k n) y ≡ sum_from f (suc d) domains + f (number k n) (change y)) e (sums_change (suc d) j n domains y at)
  sums_change d zero n (Some xs ∷ domains) y at =
      let r = items_change d 0 n xs y at in
      let e : 0 + n ≡ n = omega arith in
      let e2 : d ≡ d + 0 = omega arith in
      let a : f (number d (0 + n)) y ≡ f (number (d + 0) n) y = ap (λ (k : ℕ). f (number d k) y) e ∙ ap (λ (k : ℕ). f (number k n) y) e2 in
      let b : f (number d (0 + n)) (change y) ≡ f (number (d + 0) n) (change y) = ap (λ (k : ℕ). f (number d k) (change y)) e ∙ ap (λ (k : ℕ). f (number k n) (change y)) e2 in
      omega (arith, r, a, b)
  sums_change d (suc j) n (Some xs ∷ domains) y at =
      let r = sums_change (suc d) j n domains y at in
      let e : suc d + j ≡ d + suc j = omega arith in
      let a : f (number (suc d + j) n) y ≡ f (number (d + suc j) n) y = ap (λ (k : ℕ). f (number k n) y) e in
      let b : f (number (suc d + j) n) (change y) ≡ f (number (d + suc j) n) (change y) = ap (λ (k : ℕ). f (number k n) (change y)) e in
      omega (arith, r, a, b)

  pub sum_change : (u : UnitId) (domains : List (Option (List RtdsUnit))) (y : RtdsUnit) → rtds_unit_at domains u ≡ Some y → units_sum f (change_unit u change domains) + f u y ≡ units_sum f domains + f u (change y)
  sum_change u domains y at =
      let e : 0 + u.dom.0 ≡ u.dom.0 = omega arith in
      subst (λ (k : ℕ). units_sum f (change_unit u change domains) + f (number k u.n) y ≡ units_sum f domains + f (number k u.n) (change y)) e (sums_change 0 u.dom.0 u.n domains y at)

-- A test of one element of a list, and of one unit of a domain, after a change.
use Rattle.std.proofs.Common.{◌≡◌, ◌≢◌, ◌<◌, ◌+◌, ℕ, zero, suc, Bool, true, false, List, [], ◌∷◌, length, refl, arith, ap, subst, sym, ◌∙◌, cond}
use Rattle.std.specs.Prelude.{Option, Some, None, option_map, slice_get, map, replicate, ◌==◌, ◌&&◌}
use Rattle.sched_base.specs.declared.UnitId.{UnitId}
use Rattle.sched_model.specs.Places.{at_place, change_at, change_each, change_item, test_at, same_unit}
use Rattle.sched_laws.proofs.EachPlace.{at_place-change_each, by_cond}
use Rattle.sched_laws.proofs.Lists.{test_at-change_at_other}

-- whether the list has an element at n, and it passes the test
abbrev pub test_item : {X : Type 0} → List X → ℕ → (X → Bool) → Bool
test_item xs n test = elim (slice_get xs n) [ None ↦ false | Some x ↦ test x ]

module _ {X : Type 0} where
  -- a change that the test does not see
  pub test_item-change_item : (i n : ℕ) (f : X → X) (test : X → Bool) (xs : List X) → ((x : X) → test (f x) ≡ test x) → test_item (change_item i f xs) n test ≡ test_item xs n test
  test_item-change_item i n f test [] same = refl
  test_item-change_item zero zero f test (x ∷ xs) same = same x
  test_item-change_item zero (suc n) f test (x ∷ xs) same = refl
  test_item-change_item (suc i) zero f test (x ∷ xs) same = refl
  test_item-change_item (suc i) (suc n) f test (x ∷ xs) same = test_item-change_item i n f test xs same

  pub test_item-map : (n : ℕ) (f : X → X) (test : X → Bool) (xs : List X) → ((x : X) → test (f x) ≡ test x) → test_item (map f xs) n test ≡ test_item xs n test
  test_item-map n f test [] same = refl
  test_item-map zero f test (x ∷ xs) same = same x
  test_item-map (suc n) f test (x ∷ xs) same = test_item-map n f test xs same

  -- a change that the test sees as another one of what stood there
  changed_own : (i : ℕ) (f : X → X) (test was : X → Bool) (xs : List X) → ((x : X) → test (f x) ≡ was x) → test_item (change_item i f xs) i test ≡ test_item xs i was
  changed_own i f test was [] to = refl
  changed_own zero f test was (x ∷ xs) to = to x
  changed_own (suc i) f test was (x ∷ xs) to = changed_own i f test was xs to

  changed_other : (i n : ℕ) (f : X → X) (test : X → Bool) (xs : List X) → i ≢ n → test_item (change_item i f xs) n test ≡ test_item xs n test
  changed_other i n f test [] other = refl
  changed_other zero zero f test (x ∷ xs) other = absurd (other refl)
  changed_other zero (suc n) f test (x ∷ xs) other = refl
  changed_other (suc i) zero f test (x ∷ xs) other = refl
  changed_other (suc i) (suc n) f test (x ∷ xs) other = changed_other i n f test xs (λ e. other (ap suc e))

  pub test_item-change_to : (i n : ℕ) (f : X → X) (test was : X → Bool) (xs : List X) → ((x : X) → test (f x) ≡ was x) → test_item (change_item i f xs) n test ≡ cond (i == n) (test_item xs n was) (test_item xs n test)
  test_item-change_to i n f test was xs to =
      by_cond (λ b. test_item (change_item i f xs) n test ≡ b) (i == n) (test_item xs n was) (test_item xs n test)
      (λ is. (let e : i ≡ n = grind (arith, is) in subst (λ (k : ℕ). test_item (change_item i f xs) k test ≡ test_item xs k was) e (changed_own i f test was xs to)))
      (λ is. changed_other i n f test xs (λ e. grind (arith, is, e)))

  -- none of the same elements passes a test that one of them does not
  pub test_item-replicate : (count n : ℕ) (x : X) (test : X → Bool) → test x ≡ false → test_item (replicate count x) n test ≡ false
  test_item-replicate zero n x test fails = refl
  test_item-replicate (suc count) zero x test fails = fails
  test_item-replicate (suc count) (suc n) x test fails = test_item-replicate count n x test fails

  -- an element that is there passes a test that all pass
  pub test_item_low : (xs : List X) (n : ℕ) (test : X → Bool) → ((x : X) → test x ≡ true) → n < length xs → test_item xs n test ≡ true
  test_item_low [] n test all low = absurd (omega (arith, low))
  test_item_low (x ∷ xs) zero test all low = all x
  test_item_low (x ∷ xs) (suc n) test all low = test_item_low xs n test all (omega (arith, low))

pub cond_same : {X : Type 0} (b : Bool) (x : X) → cond b x x ≡ x
cond_same true x = refl
cond_same false x = refl

module _ {D X : Type 0} (units : D → List X) where
  -- a test of the unit, where it is there
  abbrev pub test_unit : List (Option D) → UnitId → (X → Bool) → Bool
  test_unit places u test = test_at places u.dom.0 (λ d. test_item (units d) u.n test)

  -- a test that is weaker, and one that nothing passes
  pub test_unit_more : (places : List (Option D)) (u : UnitId) (test weak : X → Bool) → ((x : X) → test x ≡ true → weak x ≡ true) → test_unit places u test ≡ true → test_unit places u weak ≡ true
  test_unit_more places u test weak more =
      elim (at_place places u.dom.0) as (λ o. elim o as (λ _. Bool) [ None ↦ false | Some d ↦ test_item (units d) u.n test ] ≡ true → elim o as (λ _. Bool) [ None ↦ false | Some d ↦ test_item (units d) u.n weak ] ≡ true) [
        | None ↦ λ is. is
        | Some d ↦ (
            elim (slice_get (units d) u.n) as (λ o. elim o as (λ _. Bool) [ None ↦ false | Some x ↦ test x ] ≡ true → elim o as (λ _. Bool) [ None ↦ false | Some x ↦ weak x ] ≡ true) [
              | None ↦ λ is. is
              | Some x ↦ more x
            ])
      ]

  pub test_unit_false : (places : List (Option D)) (u : UnitId) → test_unit places u (λ x. false) ≡ false
  test_unit_false places u =
      elim (at_place places u.dom.0) as (λ o. elim o as (λ _. Bool) [ None ↦ false | Some d ↦ test_item (units d) u.n (λ x. false) ] ≡ false) [
        | None ↦ refl
        | Some d ↦ elim (slice_get (units d) u.n) as (λ o. elim o as (λ _. Bool) [ None ↦ false | Some x ↦ false ] ≡ false) [ None ↦ refl | Some x ↦ refl ]
      ]

  -- a change of each domain that the test does not see
  pub test_unit-change_each : (f : ℕ → D → D) (places : List (Option D)) (u : UnitId) (test : X → Bool) → ((i : ℕ) (d : D) → test_item (units (f i d)) u.n test ≡ test_item (units d) u.n test)
      → test_unit (change_each 0 f places) u test ≡ test_unit places u test
  test_unit-change_each f places u test same =
      let seen : Option D → Bool = λ o. elim o as (λ _. Bool) [ None ↦ false | Some d ↦ test_item (units d) u.n test ] in
      ap seen (at_place-change_each 0 u.dom.0 f places) ∙ there (0 + u.dom.0) (at_place places u.dom.0)
    where
      there : (i : ℕ) (o : Option D) → elim (option_map (f i) o) as (λ _. Bool) [ None ↦ false | Some d ↦ test_item (units d) u.n test ] ≡ elim o as (λ _. Bool) [ None ↦ false | Some d ↦ test_item (units d) u.n test ]
      there i None = refl
      there i (Some d) = same i d

  -- a change of one unit that the test sees as another one of what stood there
  changed_here : (i n k : ℕ) (f : D → D) (test was : X → Bool) (places : List (Option D)) → ((d : D) → test_item (units (f d)) n test ≡ cond (k == n) (test_item (units d) n was) (test_item (units d) n test))
      → test_at (change_at i f places) i (λ d. test_item (units d) n test) ≡ cond (k == n) (test_at places i (λ d. test_item (units d) n was)) (test_at places i (λ d. test_item (units d) n test))
  changed_here zero n k f test was [] to = sym (cond_same (k == n) false)
  changed_here (suc i) n k f test was [] to = sym (cond_same (k == n) false)
  changed_here zero n k f test was (None ∷ places) to = sym (cond_same (k == n) false)
  changed_here zero n k f test was (Some d ∷ places) to = to d
  changed_here (suc i) n k f test was (o ∷ places) to = changed_here i n k f test was places to

  pub test_unit-change : (w u : UnitId) (f : D → D) (test was : X → Bool) (places : List (Option D)) → ((d : D) → test_item (units (f d)) u.n test ≡ cond (w.n == u.n) (test_item (units d) u.n was) (test_item (units d) u.n test))
      → test_unit (change_at w.dom.0 f places) u test ≡ cond (same_unit w u) (test_unit places u was) (test_unit places u test)
  test_unit-change w u f test was places to =
      elim (w.dom.0 == u.dom.0) as (λ b. (w.dom.0 == u.dom.0) ≡ b → test_unit (change_at w.dom.0 f places) u test ≡ cond (b && w.n == u.n) (test_unit places u was) (test_unit places u test)) [
        | true ↦ λ is. (
            let e : w.dom.0 ≡ u.dom.0 = grind (arith, is) in
            subst (λ (i : ℕ). test_at (change_at w.dom.0 f places) i (λ d. test_item (units d) u.n test) ≡ cond (w.n == u.n) (test_at places i (λ d. test_item (units d) u.n was)) (test_at places i (λ d. test_item (units d) u.n test))) e
            (changed_here w.dom.0 u.n w.n f test was places to))
        | false ↦ λ is. test_at-change_at_other w.dom.0 u.dom.0 f (λ d. test_item (units d) u.n test) places (λ e. grind (arith, is, e))
      ] refl

-- How many moments end with a list of entries, and parts of lists.
use mathlib.Core.List.{IsPrefix}
use Rattle.std.proofs.Common.{◌≡◌, ◌∙◌, ◌++◌, ◌+◌, ◌≤◌, ℕ, zero, suc, cond, List, [], ◌∷◌, length, take, drop, sym, ap, arith}
use Rattle.std.specs.Prelude.{Option, Some, None, slice_get}
use Rattle.std.proofs.lemmas.List.{take-append-drop, take-append-le, take-take, take_all}
use Rattle.std.proofs.lemmas.List.Sums.{sum_by-append, sum_by_push}
use Rattle.std.proofs.lemmas.Option.{slice_get_within}
use Rattle.sched_model.specs.declared.event.Entry.{Entry}
use Rattle.sched_report.specs.Stays.{last_moment}
use Rattle.sched_report.proofs.Grows.{last-more}
use Rattle.pcpu_watch.specs.Moments.{ends, has_next_moment, moment_of}

-- 1 where the entry ends its moment
abbrev one : Entry → ℕ
one e = cond (has_next_moment e.event) 1 0

pub ends-append : (xs ys : List Entry) → ends (xs ++ ys) ≡ ends xs + ends ys
ends-append xs ys = sum_by-append one xs ys

pub ends-more : (xs : List Entry) (e : Entry) → ends (xs ++ e ∷ []) ≡ ends xs + cond (has_next_moment e.event) 1 0
ends-more xs e = sum_by_push one xs e

module _ {A : Type 0} where
  -- what a list begins with
  pub part-same : (xs ys : List A) (n : ℕ) → IsPrefix xs ys → n ≤ length xs → take n ys ≡ take n xs
  part-same xs ys n p low = ap (take n) (sym p.1) ∙ take-append-le n xs p.0 low

  abbrev the : A → Option A → A
  the d None = d
  the d (Some x) = x

  -- one element more
  pub one-more : (xs : List A) (n : ℕ) (x : A) → slice_get xs n ≡ Some x → take (suc n) xs ≡ take n xs ++ x ∷ []
  one-more [] n x at = absurd (omega (arith, slice_get_within [] n x at))
  one-more (y ∷ xs) zero x at = ap (λ (o : Option A). the y o ∷ []) at
  one-more (y ∷ xs) (suc n) x at = ap (λ (l : List A). y ∷ l) (one-more xs n x at)

-- the moment of the last of the entries
pub last-at : (h : List Entry) (n : ℕ) (e : Entry) → slice_get h n ≡ Some e → e.at.0 ≡ last_moment (take (suc n) h)
last-at h n e at = sym (ap last_moment (one-more h n e at) ∙ last-more 0 (take n h) e)

-- with a longer part no fewer moments end
pub moments-rise : (h : List Entry) (i j : ℕ) → i ≤ j → moment_of h i ≤ moment_of h j
moments-rise h i j low =
    let whole : ends (take i (take j h)) + ends (drop i (take j h)) ≡ moment_of h j = sym (ends-append (take i (take j h)) (drop i (take j h))) ∙ ap ends (take-append-drop i (take j h)) in
    let first : ends (take i (take j h)) ≡ moment_of h i = ap ends (take-take i j h low) in
    omega (arith, whole, first)

-- in a list that goes on, what stands in the first part stands in the same moment
pub moment-same : (h more : List Entry) (i : ℕ) → IsPrefix h more → i ≤ length h → moment_of more i ≡ moment_of h i
moment-same h more i p low = ap ends (part-same h more i p low)

-- what stands behind it stands in no moment that ends with it
pub moment-behind : (h more : List Entry) (i : ℕ) → IsPrefix h more → length h ≤ i → ends h ≤ moment_of more i
moment-behind h more i p high =
    let here : moment_of more (length h) ≡ ends h = ap ends (part-same h more (length h) p (omega arith) ∙ take_all (length h) h (omega arith)) in
    omega (arith, here, moments-rise more (length h) i high)

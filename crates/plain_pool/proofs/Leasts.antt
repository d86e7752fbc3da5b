-- The least of a number and of moments: of one moment, of two kinds, and of the items of a list.
use Rattle.std.proofs.Common.{◌≡◌, ◌+◌, ◌∙◌, ◌⊎◌, ℕ, zero, suc, List, [], ◌∷◌, min, refl, sym, ap, subst, inl, inr, arith}
use Rattle.std.specs.Prelude.{Option, Some, None, slice_get}
use Rattle.std.proofs.lemmas.Bool.{cases_lt}
use Rattle.sched_base.specs.Numbers.{moment}
use Rattle.sched_base.specs.declared.Moment.{Moment}
use Rattle.sched_model.specs.Places.{at_place, numbered_items}
use Rattle.plain_pool.specs.Ready.{IsLeastWith, lesser_moment, least_each}

-- the moment is there, and is this number
abbrev pub IsAt : Option Moment → ℕ → Type 0
IsAt o at = o ≡ Some (moment at)

-- of nothing
pub least_none : (best : ℕ) → IsLeastWith best (λ at. ⊥) best
least_none best = record { no_more = omega arith; no_later = λ at one. absurd one; one = inl refl }

-- of one moment
min_cases : (a b : ℕ) → (min a b ≡ a) ⊎ (b ≡ min a b)
min_cases a b = elim (cases_lt b a) [ inl less ↦ inr (omega (arith, less)) | inr more ↦ inl (omega (arith, more)) ]

pub least_one : (best : ℕ) (o : Option Moment) → IsLeastWith best (IsAt o) (lesser_moment best o)
least_one best None = record { no_more = omega arith; no_later = λ at is. absurd (cc); one = inl refl }
least_one best (Some m) = record {
  no_more = omega arith;
  no_later = λ at is. (let e : m ≡ moment at = cc in let n : m.0 ≡ at = ap (λ (x : Moment). x.0) e in omega (arith, n));
  one = elim (min_cases best m.0) [ inl same ↦ inl same | inr less ↦ inr (ap (λ (n : ℕ). Some (moment n)) less) ];
}

-- of one kind and then of another
pub least_both : {best middle last : ℕ} {M N : ℕ → Type 0} → IsLeastWith best M middle → IsLeastWith middle N last → IsLeastWith best (λ at. M at ⊎ N at) last
least_both {best} {middle} {last} {M} {N} first next = record {
  no_more = (let a = first.no_more in let b = next.no_more in omega (arith, a, b));
  no_later = λ at h. elim h [
    | inl m ↦ (let a = first.no_later at m in let b = next.no_more in omega (arith, a, b))
    | inr n ↦ next.no_later at n
  ];
  one = elim next.one [
    | inl same ↦ elim first.one [ inl e ↦ inl (same ∙ e) | inr m ↦ inr (inl (subst M (sym same) m)) ]
    | inr n ↦ inr (inr n)
  ];
}

-- of others that are the same
pub least_same : {best least : ℕ} {M : ℕ → Type 0} (N : ℕ → Type 0) → ((at : ℕ) → M at → N at) → ((at : ℕ) → N at → M at) → IsLeastWith best M least → IsLeastWith best N least
least_same {best} {least} {M} N to from is = record {
  no_more = is.no_more;
  no_later = λ at n. is.no_later at (from at n);
  one = elim is.one [ inl same ↦ inl same | inr m ↦ inr (to least m) ];
}

-- an item of a list has the property, with its place
pub record AtItem {X : Type 0} (P : ℕ → X → Type 0) (xs : List X) : Type 0 where
  pub place : ℕ
  pub item : X
  pub there : slice_get xs place ≡ Some item
  pub has : P place item

-- the same of what stands at places
pub record AtPlace {X : Type 0} (P : ℕ → X → Type 0) (places : List (Option X)) : Type 0 where
  pub place : ℕ
  pub item : X
  pub there : at_place places place ≡ Some item
  pub has : P place item

module _ {X : Type 0} where
  pub no_item : (P : ℕ → X → Type 0) → AtItem P [] → ⊥
  no_item P h = (let there = h.there in absurd (cc))

  pub more_items : (P : ℕ → X → Type 0) (x : X) (xs : List X) → P 0 x ⊎ AtItem (λ i. P (suc i)) xs → AtItem P (x ∷ xs)
  more_items P x xs (inl first) = record { place = 0; item = x; there = refl; has = first }
  more_items P x xs (inr h) = record { place = suc h.place; item = h.item; there = h.there; has = h.has }

  pub which_item : (P : ℕ → X → Type 0) (x : X) (xs : List X) (i : ℕ) (y : X) → slice_get (x ∷ xs) i ≡ Some y → P i y → P 0 x ⊎ AtItem (λ i. P (suc i)) xs
  which_item P x xs zero y there has = (let e : y ≡ x = cc in inl (subst (P 0) e has))
  which_item P x xs (suc i) y there has = inr (record { place = i; item = y; there = there; has = has })

  no_place : (P : ℕ → X → Type 0) → AtPlace P [] → ⊥
  no_place P h = (let there = h.there in absurd (cc))

  more_places : (P : ℕ → X → Type 0) (x : X) (places : List (Option X)) → P 0 x ⊎ AtPlace (λ i. P (suc i)) places → AtPlace P (Some x ∷ places)
  more_places P x places (inl first) = record { place = 0; item = x; there = refl; has = first }
  more_places P x places (inr h) = record { place = suc h.place; item = h.item; there = h.there; has = h.has }

  which_place : (P : ℕ → X → Type 0) (x : X) (places : List (Option X)) (i : ℕ) (y : X) → at_place (Some x ∷ places) i ≡ Some y → P i y → P 0 x ⊎ AtPlace (λ i. P (suc i)) places
  which_place P x places zero y there has = (let e : y ≡ x = cc in inl (subst (P 0) e has))
  which_place P x places (suc i) y there has = inr (record { place = i; item = y; there = there; has = has })

  past_empty : (P : ℕ → X → Type 0) (places : List (Option X)) → AtPlace (λ i. P (suc i)) places → AtPlace P (None ∷ places)
  past_empty P places h = record { place = suc h.place; item = h.item; there = h.there; has = h.has }

  not_empty : (P : ℕ → X → Type 0) (places : List (Option X)) (i : ℕ) (y : X) → at_place (None ∷ places) i ≡ Some y → P i y → AtPlace (λ i. P (suc i)) places
  not_empty P places zero y there has = absurd (cc)
  not_empty P places (suc i) y there has = record { place = i; item = y; there = there; has = has }

-- of the items of a list
pub least_items : {X : Type 0} (f : ℕ → X → ℕ) (P : ℕ → X → ℕ → Type 0) → ((i : ℕ) (x : X) (best : ℕ) → IsLeastWith best (P i x) (f best x))
    → (best : ℕ) (xs : List X) → IsLeastWith best (λ at. AtItem (λ i x. P i x at) xs) (least_each f best xs)
least_items f P each best [] = least_same (λ at. AtItem (λ i x. P i x at) []) (λ at none. absurd none) (λ at h. no_item (λ i x. P i x at) h) (least_none best)
least_items f P each best (x ∷ xs) =
    least_same (λ at. AtItem (λ i x. P i x at) (x ∷ xs))
    (λ at h. more_items (λ i x. P i x at) x xs h)
    (λ at h. which_item (λ i x. P i x at) x xs h.place h.item h.there h.has)
    (least_both (each 0 x best) (least_items f (λ i. P (suc i)) (λ i. each (suc i)) (f best x) xs))

-- of what stands at places, of which the first has the number n
pub least_places : {X : Type 0} (f : ℕ → ℕ → X → ℕ) (P : ℕ → X → ℕ → Type 0) (n : ℕ) → ((i : ℕ) (x : X) (k best : ℕ) → k ≡ n + i → IsLeastWith best (P i x) (f k best x))
    → (best : ℕ) (places : List (Option X)) → IsLeastWith best (λ at. AtPlace (λ i x. P i x at) places) (least_each (λ so_far (e : ℕ × X). f e.0 so_far e.1) best (numbered_items n places))
least_places f P n each best [] = least_same (λ at. AtPlace (λ i x. P i x at) []) (λ at none. absurd none) (λ at h. no_place (λ i x. P i x at) h) (least_none best)
least_places f P n each best (None ∷ places) =
    least_same (λ at. AtPlace (λ i x. P i x at) (None ∷ places))
    (λ at h. past_empty (λ i x. P i x at) places h)
    (λ at h. not_empty (λ i x. P i x at) places h.place h.item h.there h.has)
    (least_places f (λ i. P (suc i)) (suc n) (λ i x k b e. each (suc i) x k b (omega (arith, e))) best places)
least_places f P n each best (Some x ∷ places) =
    least_same (λ at. AtPlace (λ i x. P i x at) (Some x ∷ places))
    (λ at h. more_places (λ i x. P i x at) x places h)
    (λ at h. which_place (λ i x. P i x at) x places h.place h.item h.there h.has)
    (least_both (each 0 x n best (omega arith)) (least_places f (λ i. P (suc i)) (suc n) (λ i y k b e. each (suc i) y k b (omega (arith, e))) (f n best x) places))

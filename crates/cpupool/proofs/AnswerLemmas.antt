-- The first place that answers, and places that do not.
use Rattle.std.proofs.Common.{◌≡◌, ◌+◌, ℕ, zero, suc, List, [], ◌∷◌, refl, sym, ◌∙◌, ap, add-zero, arith}
use Rattle.std.specs.Prelude.{Option, Some, None, replicate}
use Rattle.sched_model.specs.Places.{at_place, change_at, put_at, clear_at}
use Rattle.journal_core.specs.Parts.{UnderWay, first_answer}
use Rattle.journal_core.specs.Parts.{or_else}

-- one place changed without a change of its answer
pub answer_change : {X Y : Type 0} (h : ℕ → X → Option Y) (f : X → X) → ((n : ℕ) (x : X) → h n (f x) ≡ h n x) → (i n : ℕ) (places : List (Option X)) → first_answer h n (change_at i f places) ≡ first_answer h n places
answer_change h f same i n [] = refl
answer_change h f same zero n (None ∷ places) = refl
answer_change {X} {Y} h f same zero n (Some x ∷ places) =
    ap (λ (o : Option Y). elim o [ Some y ↦ Some y | None ↦ first_answer h (suc n) places ]) (same n x)
answer_change h f same (suc i) n (None ∷ places) = answer_change h f same i (suc n) places
answer_change {X} {Y} h f same (suc i) n (Some x ∷ places) =
    let answer : Option Y → Option Y = λ rest. elim (h n x) [ Some y ↦ Some y | None ↦ rest ] in
    ap answer (answer_change h f same i (suc n) places)

-- an answer, or else another
abbrev answer_else : {Y : Type 0} → Option Y → Option Y → Option Y
answer_else o rest = elim o [ Some y ↦ Some y | None ↦ rest ]

-- no place answers, and one is changed so that it does
first_none : {X Y : Type 0} (h : ℕ → X → Option Y) (n : ℕ) (x : X) (places : List (Option X)) → first_answer h n (Some x ∷ places) ≡ None → (h n x ≡ None) × (first_answer h (suc n) places ≡ None)
first_none {X} {Y} h n x places none = split (h n x) none
  where
    split : (o : Option Y) → answer_else o (first_answer h (suc n) places) ≡ None → (o ≡ None) × (first_answer h (suc n) places ≡ None)
    split None none = (refl, none)
    split (Some y) none = cc

abbrev pub changed_answer : {X Y : Type 0} → (X → Option Y) → Option X → Option Y
changed_answer f None = None
changed_answer f (Some x) = f x

pub answer_put : {X Y : Type 0} (h : ℕ → X → Option Y) (f : X → X) (i n : ℕ) (places : List (Option X)) → first_answer h n places ≡ None
    → first_answer h n (change_at i f places) ≡ changed_answer (λ x. h (n + i) (f x)) (at_place places i)
answer_put h f i n [] none = refl
answer_put h f zero n (None ∷ places) none = none
answer_put {X} {Y} h f zero n (Some x ∷ places) none =
    let rest = (first_none h n x places none).1 in
    let answer : Option Y → Option Y → Option Y = λ o r. elim o [ Some y ↦ Some y | None ↦ r ] in
    ap (answer (h n (f x))) rest
    ∙ elim (h n (f x)) as (λ o. answer o None ≡ o) [ Some y ↦ refl | None ↦ refl ]
    ∙ ap (λ k. h k (f x)) (sym (add-zero n))
answer_put h f (suc i) n (None ∷ places) none = answer_put h f i (suc n) places none ∙ ap (λ k. changed_answer (λ x. h k (f x)) (at_place places i)) (next n i)
  where
    next : (n i : ℕ) → suc n + i ≡ n + suc i
    next n i = omega arith
answer_put {X} {Y} h f (suc i) n (Some x ∷ places) none =
    let split = first_none h n x places none in
    let answer : Option Y → Option Y = λ o. elim o [ Some y ↦ Some y | None ↦ first_answer h (suc n) (change_at i f places) ] in
    let next : suc n + i ≡ n + suc i = omega arith in
    ap answer split.0 ∙ answer_put h f i (suc n) places split.1 ∙ ap (λ k. changed_answer (λ x. h k (f x)) (at_place places i)) next

pub none_at : {X Y : Type 0} (h : ℕ → X → Option Y) (i n : ℕ) (places : List (Option X)) (x : X) → first_answer h n places ≡ None → at_place places i ≡ Some x → h (n + i) x ≡ None
none_at h i n [] x none there = cc
none_at h zero n (None ∷ places) x none there = cc
none_at h zero n (Some y ∷ places) x none there =
    let same : y ≡ x = cc in
    ap (λ k. h k x) (add-zero n) ∙ ap (h n) (sym same) ∙ (first_none h n y places none).0
none_at h (suc i) n (None ∷ places) x none there = ap (λ k. h k x) (next n i) ∙ none_at h i (suc n) places x none there
  where
    next : (n i : ℕ) → n + suc i ≡ suc n + i
    next n i = omega arith
none_at h (suc i) n (Some y ∷ places) x none there =
    let next : n + suc i ≡ suc n + i = omega arith in
    ap (λ k. h k x) next ∙ none_at h i (suc n) places x (first_none h n y places none).1 there

-- a place made empty, or given what does not answer
pub put_none : {X Y : Type 0} (h : ℕ → X → Option Y) (x : X) → ((n : ℕ) → h n x ≡ None) → (i n : ℕ) (places : List (Option X)) → first_answer h n places ≡ None → first_answer h n (put_at i x places) ≡ None
put_none h x quiet i n [] none = none
put_none {X} {Y} h x quiet zero n (None ∷ places) none = ap (λ (o : Option Y). elim o [ Some y ↦ Some y | None ↦ first_answer h (suc n) places ]) (quiet n) ∙ none
put_none {X} {Y} h x quiet zero n (Some z ∷ places) none = ap (λ (o : Option Y). elim o [ Some y ↦ Some y | None ↦ first_answer h (suc n) places ]) (quiet n) ∙ (first_none h n z places none).1
put_none h x quiet (suc i) n (None ∷ places) none = put_none h x quiet i (suc n) places none
put_none {X} {Y} h x quiet (suc i) n (Some z ∷ places) none =
    ap (λ (o : Option Y). elim o [ Some y ↦ Some y | None ↦ first_answer h (suc n) (put_at i x places) ]) (first_none h n z places none).0 ∙ put_none h x quiet i (suc n) places (first_none h n z places none).1

pub clear_none : {X Y : Type 0} (h : ℕ → X → Option Y) (i n : ℕ) (places : List (Option X)) → first_answer h n places ≡ None → first_answer h n (clear_at i places) ≡ None
clear_none h i n [] none = none
clear_none h zero n (None ∷ places) none = none
clear_none h zero n (Some z ∷ places) none = (first_none h n z places none).1
clear_none h (suc i) n (None ∷ places) none = clear_none h i (suc n) places none
clear_none {X} {Y} h (suc i) n (Some z ∷ places) none =
    ap (λ (o : Option Y). elim o [ Some y ↦ Some y | None ↦ first_answer h (suc n) (clear_at i places) ]) (first_none h n z places none).0 ∙ clear_none h i (suc n) places (first_none h n z places none).1

-- nothing is on its way from the pools, nor from the cores of none
pub none_either : (a b : Option UnderWay) → or_else a b ≡ None → (a ≡ None) × (b ≡ None)
none_either None b none = (refl, none)
none_either (Some way) b none = cc

-- no place has anything
pub no_answer : {X Y : Type 0} (h : ℕ → X → Option Y) (n count : ℕ) → first_answer h n (replicate count None) ≡ None
no_answer h n zero = refl
no_answer h n (suc count) = no_answer h (suc n) count

-- Cores that are alike in two lists: what is seen of all of them is the same.
use Rattle.std.proofs.Common.{◌≡◌, ◌∙◌, ℕ, suc, Bool, true, false, List, [], ◌∷◌, length, refl, ap, arith}
use Rattle.std.specs.Prelude.{Option, Some, None, ◌||◌}
use Rattle.std.specs.List.{list_any}
use Rattle.sched_model.specs.declared.state.Resource.{Resource}
use Rattle.sched_model.specs.declared.state.Pool.{Pool}
use Rattle.sched_model.specs.Places.{first_place, numbered_items, test_at}
use Rattle.sched_model.specs.Pool.{is_first_processor_up, is_lowest_processor_up}
use Rattle.sched_laws.proofs.Events.{LikePlace, LikePlaces, like_look}

module _ {X : Type 0} (R : X → X → Type 0) where
  rest : (o p : Option X) (old next : List (Option X)) → LikePlaces R (o ∷ old) (p ∷ next) → LikePlaces R old next
  rest o p old next like = record { count = (let a = like.count in omega (arith, a)); at = λ i. like.at (suc i) }

  longer : (o : Option X) (old : List (Option X)) → LikePlaces R (o ∷ old) [] → ⊥
  longer o old like = (let a : 0 ≡ length (o ∷ old) = like.count in omega (arith, a))

  shorter : (p : Option X) (next : List (Option X)) → LikePlaces R [] (p ∷ next) → ⊥
  shorter p next like = (let a : length (p ∷ next) ≡ 0 = like.count in omega (arith, a))

  module _ (test : X → Bool) (same : (x y : X) → R x y → test y ≡ test x) where
    first_step : (n : ℕ) (a b : Option X) (old next : List (Option X)) → LikePlace R a b → first_place (suc n) test next ≡ first_place (suc n) test old → first_place n test (b ∷ next) ≡ first_place n test (a ∷ old)
    first_step n None None old next now more = more
    first_step n None (Some y) old next none more = absurd none
    first_step n (Some x) None old next none more = absurd none
    first_step n (Some x) (Some y) old next now more =
        ap (λ (b : Bool). elim b as (λ _. Option ℕ) [ true ↦ Some n | false ↦ first_place (suc n) test next ]) (same x y now)
        ∙ ap (λ (o : Option ℕ). elim (test x) as (λ _. Option ℕ) [ true ↦ Some n | false ↦ o ]) more

    pub first_same : (n : ℕ) (old next : List (Option X)) → LikePlaces R old next → first_place n test next ≡ first_place n test old
    first_same n [] [] like = refl
    first_same n [] (p ∷ next) like = absurd (shorter p next like)
    first_same n (o ∷ old) [] like = absurd (longer o old like)
    first_same n (o ∷ old) (p ∷ next) like = first_step n o p old next (like.at 0) (first_same (suc n) old next (rest o p old next like))

  -- what none of the first passes, none of the second does
  module _ (test : X → Bool) (less : (x y : X) → R x y → test y ≡ false → test x ≡ false) where
    either : (a b c d : Bool) → (a ≡ false → c ≡ false) → (b ≡ false → d ≡ false) → (a || b) ≡ false → (c || d) ≡ false
    either true b c d left right none = absurd (cc)
    either false b c d left right none = ap (λ (x : Bool). x || d) (left refl) ∙ right none

    abbrev passes : ℕ → List (Option X) → Bool
    passes n places = list_any (λ (e : ℕ × X). test e.1) (numbered_items n places)

    none_step : (n : ℕ) (a b : Option X) (old next : List (Option X)) → LikePlace R a b → (passes (suc n) next ≡ false → passes (suc n) old ≡ false) → passes n (b ∷ next) ≡ false → passes n (a ∷ old) ≡ false
    none_step n None None old next now more e = more e
    none_step n None (Some y) old next none more e = absurd none
    none_step n (Some x) None old next none more e = absurd none
    none_step n (Some x) (Some y) old next now more e = either (test y) (passes (suc n) next) (test x) (passes (suc n) old) (less x y now) more e

    pub none_less : (n : ℕ) (old next : List (Option X)) → LikePlaces R old next → list_any (λ (e : ℕ × X). test e.1) (numbered_items n next) ≡ false → list_any (λ (e : ℕ × X). test e.1) (numbered_items n old) ≡ false
    none_less n [] [] like none = refl
    none_less n [] (p ∷ next) like none = absurd (shorter p next like)
    none_less n (o ∷ old) [] like none = absurd (longer o old like)
    none_less n (o ∷ old) (p ∷ next) like none = none_step n o p old next (like.at 0) (none_less (suc n) old next (rest o p old next like)) none

-- a core whose first processor is up as before
abbrev pub UpAsBefore : ℕ → Resource → Resource → Type 0
UpAsBefore t c d = is_first_processor_up t d ≡ is_first_processor_up t c

pub lowest_same : (t : ℕ) (pool : Pool) (cores : List (Option Resource)) → LikePlaces (UpAsBefore t) pool.resources cores
    → is_lowest_processor_up t (record pool { resources = cores }) ≡ is_lowest_processor_up t pool
lowest_same t pool cores like =
    ap (λ (o : Option ℕ). elim o as (λ _. Bool) [ None ↦ false | Some r ↦ test_at cores r (is_first_processor_up t) ]) (first_same (UpAsBefore t) (λ (c : Resource). true) (λ x y now. refl) 0 pool.resources cores like)
    ∙ by (first_place 0 (λ (c : Resource). true) pool.resources)
  where
    by : (o : Option ℕ) → elim o as (λ _. Bool) [ None ↦ false | Some r ↦ test_at cores r (is_first_processor_up t) ] ≡ elim o as (λ _. Bool) [ None ↦ false | Some r ↦ test_at pool.resources r (is_first_processor_up t) ]
    by None = refl
    by (Some r) = like_look (UpAsBefore t) (λ (o : Option Resource). elim o as (λ _. Bool) [ None ↦ false | Some c ↦ is_first_processor_up t c ]) pool.resources cores (λ x y now. now) like r

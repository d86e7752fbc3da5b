-- Numbers in order, and the units that have them.
use Rattle.std.proofs.Common.{◌≡◌, ℕ, zero, suc, ◌+◌, List, [], ◌∷◌, ◌++◌, refl, sym, ap, ◌∙◌, arith, map, append_assoc, zero-add, add-zero, get_or, set, ◌<◌, ◌≤◌, ◌≢◌}
use Rattle.std.proofs.lemmas.List.{map-append}
use Rattle.sched_base.specs.declared.UnitId.{UnitId}
use Rattle.sched_base.specs.Numbers.{domain}
use Rattle.sched_model.specs.Places.{numbers_from}

-- one number more stands at the end
pub numbers-more : (a n : ℕ) → numbers_from a (n + 1) ≡ numbers_from a n ++ (a + n) ∷ []
numbers-more a zero = ap (λ k. k ∷ []) (omega arith)
numbers-more a (suc n) =
    let here : suc n + 1 ≡ suc (n + 1) = omega arith in
    let last : suc a + n ≡ a + suc n = omega arith in
    ap (numbers_from a) here ∙ ap (λ ks. a ∷ ks) (numbers-more (suc a) n ∙ ap (λ k. numbers_from (suc a) n ++ k ∷ []) last)

-- one unit more of the domain d
pub units-more : (d n : ℕ) (before names after : List UnitId)
    → names ≡ before ++ map (λ k. let u : UnitId = record { dom = domain d; n = k } in u) (numbers_from 0 n)
    → after ≡ names ++ (record { dom = domain d; n = n }) ∷ []
    → after ≡ before ++ map (λ k. let u : UnitId = record { dom = domain d; n = k } in u) (numbers_from 0 (n + 1))
units-more d n before names after is more =
    let u : ℕ → UnitId = λ k. record { dom = domain d; n = k } in
    more ∙ ap (λ xs. xs ++ u n ∷ []) is ∙ append_assoc before (map u (numbers_from 0 n)) (u n ∷ [])
    ∙ ap (λ xs. before ++ xs) (sym (map-append u (numbers_from 0 n) (n ∷ [])) ∙ ap (map u) (ap (λ k. numbers_from 0 n ++ k ∷ []) (sym (zero-add n)) ∙ sym (numbers-more 0 n)))

-- what a function gives of the numbers, by place
pub get_or-numbers : {X : Type 0} (f : ℕ → X) (a n i : ℕ) (d : X) → i < n → get_or (map f (numbers_from a n)) i d ≡ f (a + i)
get_or-numbers f a zero i d below = absurd (omega (arith, below))
get_or-numbers f a (suc n) zero d below = ap f (sym (add-zero a))
get_or-numbers f a (suc n) (suc i) d below =
    let there : suc a + i ≡ a + suc i = omega arith in
    get_or-numbers f (suc a) n i d (omega (arith, below)) ∙ ap f there

-- where two functions agree on the numbers
pub map-same : {X : Type 0} (f g : ℕ → X) (a n : ℕ) → ((k : ℕ) → a ≤ k → k < a + n → g k ≡ f k) → map f (numbers_from a n) ≡ map g (numbers_from a n)
map-same f g a zero same = refl
map-same f g a (suc n) same =
    λ i. sym (same a (omega arith) (omega arith)) i ∷ map-same f g (suc a) n (λ k low high. same k (omega (arith, low)) (omega (arith, high))) i

-- where they agree but for one, whose value is put in its place
pub set-numbers : {X : Type 0} (f g : ℕ → X) (a n i : ℕ) (y : X) → ((k : ℕ) → k ≢ a + i → g k ≡ f k) → i < n → y ≡ g (a + i)
    → set (map f (numbers_from a n)) i y ≡ map g (numbers_from a n)
set-numbers f g a zero i y same below is = absurd (omega (arith, below))
set-numbers f g a (suc n) zero y same below is =
    let here : y ≡ g a = is ∙ ap g (add-zero a) in
    λ j. here j ∷ map-same f g (suc a) n (λ k low high. same k (λ e. omega (arith, e, low))) j
set-numbers f g a (suc n) (suc i) y same below is =
    let there : a + suc i ≡ suc a + i = omega arith in
    λ j. sym (same a (λ e. omega (arith, e))) j ∷ set-numbers f g (suc a) n i y (λ k apart. same k (λ e. apart (e ∙ there))) (omega (arith, below)) (is ∙ ap g there) j

-- Lists of places: what stands in them, and that they rise.
use Rattle.std.proofs.Common.{◌≡◌, ◌⊎◌, inl, inr, ℕ, zero, suc, ◌<◌, Bool, true, false, true≢false, cond, eqb, ◌||◌, List, [], ◌∷◌, ◌++◌, sym, refl, ap, ◌∙◌, ⊎_elim, eq-eqb, ne_eqb, arith}
use Rattle.std.proofs.lemmas.Bool.{or_right, or_cases}
use Rattle.sched_base.proofs.Bools.{or_more}
use mathlib.Core.Logic.{dite}
use native.Mathlib.Decide.{ℕ_discrete}
use Rattle.lock_moves.specs.SeatSight.{has_place, AllAbove, Rising, both_places}

pub place_there : (p : ℕ) (xs ys : List ℕ) → has_place p xs ≡ true → has_place p (xs ++ ys) ≡ true
place_there p [] ys e = absurd (true≢false (sym e))
place_there p (x ∷ xs) ys e = dite (ℕ_discrete p x)
    (λ is. ap (λ b. b || has_place p (xs ++ ys)) (eq-eqb p x is))
    (λ ne. ap (λ b. b || has_place p (xs ++ ys)) (ne_eqb p x ne) ∙ place_there p xs ys (sym (ap (λ b. b || has_place p xs) (ne_eqb p x ne)) ∙ e))

pub place_last : (p : ℕ) (xs : List ℕ) → has_place p (xs ++ p ∷ []) ≡ true
place_last p [] = ap (λ b. b || false) (eq-eqb p p refl)
place_last p (x ∷ xs) = dite (ℕ_discrete p x)
    (λ is. ap (λ b. b || has_place p (xs ++ p ∷ [])) (eq-eqb p x is))
    (λ ne. ap (λ b. b || has_place p (xs ++ p ∷ [])) (ne_eqb p x ne) ∙ place_last p xs)

pub place_either : (p : ℕ) (xs ys : List ℕ) → has_place p (xs ++ ys) ≡ true → (has_place p xs ≡ true) ⊎ (has_place p ys ≡ true)
place_either p [] ys e = inr e
place_either p (x ∷ xs) ys e = dite (ℕ_discrete p x)
    (λ is. inl (ap (λ b. b || has_place p xs) (eq-eqb p x is)))
    (λ ne. ⊎_elim (λ l. inl (ap (λ b. b || has_place p xs) (ne_eqb p x ne) ∙ l)) (λ r. inr r)
    (place_either p xs ys (sym (ap (λ b. b || has_place p (xs ++ ys)) (ne_eqb p x ne)) ∙ e)))

pub place_one : (p q : ℕ) → has_place p (q ∷ []) ≡ true → p ≡ q
place_one p q e = dite (ℕ_discrete p q) (λ is. is) (λ ne. absurd (true≢false (sym e ∙ ap (λ b. b || false) (ne_eqb p q ne))))

in_right : (p : ℕ) (xs ys : List ℕ) → has_place p ys ≡ true → has_place p (xs ++ ys) ≡ true
in_right p [] ys e = e
in_right p (x ∷ xs) ys e = dite (ℕ_discrete p x)
    (λ is. ap (λ b. b || has_place p (xs ++ ys)) (eq-eqb p x is))
    (λ ne. ap (λ b. b || has_place p (xs ++ ys)) (ne_eqb p x ne) ∙ in_right p xs ys e)

above-snoc : (q : ℕ) (xs : List ℕ) (n : ℕ) → AllAbove q xs → q < n → AllAbove q (xs ++ n ∷ [])
above-snoc q [] n above low = (low, tt)
above-snoc q (x ∷ xs) n above low = (above.0, above-snoc q xs n above.1 low)

-- a list that rises and is below n rises with n at its end
pub rising-snoc : (xs : List ℕ) (n : ℕ) → ((p : ℕ) → has_place p xs ≡ true → p < n) → Rising xs → Rising (xs ++ n ∷ [])
rising-snoc [] n below rising = (tt, tt)
rising-snoc (x ∷ xs) n below rising = (
  above-snoc x xs n rising.0 (below x (ap (λ b. b || has_place x xs) (eq-eqb x x refl))),
  rising-snoc xs n (λ p is. below p (or_right (eqb p x) (has_place p xs) is)) rising.1,
)

pub case : (P : Bool → Type 0) (b : Bool) → (b ≡ true → P true) → (b ≡ false → P false) → P b
case P true is isnt = is refl
case P false is isnt = isnt refl

abbrev last_of : ℕ → Bool → List ℕ
last_of n b = cond b (n ∷ []) []

in_last : (p n : ℕ) (b : Bool) → has_place p (last_of n b) ≡ true → (p ≡ n) × (b ≡ true)
in_last p n true e = (place_one p n e, refl)
in_last p n false e = absurd (true≢false (sym e))

pub both-below : (p : ℕ) (xs ys : List ℕ) (n : ℕ) → has_place p (both_places xs ys n) ≡ true → p < n
both-below p xs ys zero e = absurd (true≢false (sym e))
both-below p xs ys (suc n) e = ⊎_elim (λ l. let t = both-below p xs ys n l in omega (arith, t)) (λ r. let t = in_last p n (has_place n xs || has_place n ys) r in omega (arith, t.0))
    (place_either p (both_places xs ys n) (last_of n (has_place n xs || has_place n ys)) e)

-- what stands in both stands in one of them
pub both-either : (p : ℕ) (xs ys : List ℕ) (n : ℕ) → has_place p (both_places xs ys n) ≡ true → (has_place p xs ≡ true) ⊎ (has_place p ys ≡ true)
both-either p xs ys zero e = absurd (true≢false (sym e))
both-either p xs ys (suc n) e = ⊎_elim (λ l. both-either p xs ys n l)
    (λ r. let t = in_last p n (has_place n xs || has_place n ys) r in or_cases (has_place p xs) (has_place p ys) (ap (λ (q : ℕ). has_place q xs || has_place q ys) t.0 ∙ t.1))
    (place_either p (both_places xs ys n) (last_of n (has_place n xs || has_place n ys)) e)

both-has : (p : ℕ) (xs ys : List ℕ) (n : ℕ) → p < n → (has_place p xs || has_place p ys) ≡ true → has_place p (both_places xs ys n) ≡ true
both-has p xs ys zero low e = absurd (omega (arith, low))
both-has p xs ys (suc n) low e = dite (ℕ_discrete p n)
    (λ is. in_right p (both_places xs ys n) (last_of n (has_place n xs || has_place n ys))
    (ap (λ b. has_place p (last_of n b)) (ap (λ (q : ℕ). has_place q xs || has_place q ys) (sym is) ∙ e) ∙ ap (λ b. b || false) (eq-eqb p n is)))
    (λ ne. place_there p (both_places xs ys n) (last_of n (has_place n xs || has_place n ys)) (both-has p xs ys n (omega (arith, low, ne)) e))

-- what stands in one of them stands in both
pub both-left : (p : ℕ) (xs ys : List ℕ) (n : ℕ) → p < n → has_place p xs ≡ true → has_place p (both_places xs ys n) ≡ true
both-left p xs ys n low e = both-has p xs ys n low (or_more (has_place p xs) (has_place p ys) e)

pub both-right : (p : ℕ) (xs ys : List ℕ) (n : ℕ) → p < n → has_place p ys ≡ true → has_place p (both_places xs ys n) ≡ true
both-right p xs ys n low e = both-has p xs ys n low (or_right (has_place p xs) (has_place p ys) e)

append_none : (xs : List ℕ) → Rising xs → Rising (xs ++ [])
append_none [] r = tt
append_none (x ∷ xs) r = (above_none x xs r.0, append_none xs r.1)
  where
    above_none : (q : ℕ) (ys : List ℕ) → AllAbove q ys → AllAbove q (ys ++ [])
    above_none q [] a = tt
    above_none q (y ∷ ys) a = (a.0, above_none q ys a.1)

-- both rise
pub both-rising : (xs ys : List ℕ) (n : ℕ) → Rising (both_places xs ys n)
both-rising xs ys zero = tt
both-rising xs ys (suc n) = case (λ b. Rising (both_places xs ys n ++ last_of n b)) (has_place n xs || has_place n ys)
    (λ _. rising-snoc (both_places xs ys n) n (λ p is. both-below p xs ys n is) (both-rising xs ys n))
    (λ _. append_none (both_places xs ys n) (both-rising xs ys n))

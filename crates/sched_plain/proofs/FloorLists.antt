-- Lists of floors: what is left where one is set, or several.
use Rattle.std.proofs.Common.{◌≡◌, ◌≢◌, ◌≤◌, ◌+◌, ℕ, zero, suc, Bool, true, false, List, [], ◌∷◌, length, refl, sym, ap, subst, arith, cond, min}
use Rattle.std.specs.Prelude.{Option, Some, None, slice_set, replicate}
use Rattle.sched_model.specs.declared.state.Resource.{Resource}
use Rattle.sched_model.specs.Places.{at_place}
use Rattle.sched_plain.specs.KeptFloors.{AreAsked, AreBehind, floor_at, forgotten, least_kind, lowered, pended}

-- past the end nothing is set
pub set_past : {X : Type 0} (xs : List X) (n : ℕ) (x : X) → length xs ≤ n → slice_set xs n x ≡ xs
set_past [] n x past = refl
set_past (y ∷ xs) zero x past = absurd (omega (arith, past))
set_past (y ∷ xs) (suc n) x past = ap (λ ys. y ∷ ys) (set_past xs n x (omega (arith, past)))

-- a floor that is set to what is no more
set_lower : (xs : List ℕ) (n j x : ℕ) → x ≤ floor_at xs n → floor_at (slice_set xs n x) j ≤ floor_at xs j
set_lower [] n j x low = omega arith
set_lower (y ∷ xs) zero zero x low = low
set_lower (y ∷ xs) zero (suc j) x low = omega arith
set_lower (y ∷ xs) (suc n) zero x low = omega arith
set_lower (y ∷ xs) (suc n) (suc j) x low = set_lower xs n j x low

pub set_here : (xs : List ℕ) (n x : ℕ) → floor_at (slice_set xs n x) n ≤ x
set_here [] n x = (let e : floor_at [] n ≡ 0 = empty n in omega (arith, e))
  where
    empty : (k : ℕ) → floor_at [] k ≡ 0
    empty zero = refl
    empty (suc k) = refl
set_here (y ∷ xs) zero x = omega arith
set_here (y ∷ xs) (suc n) x = set_here xs n x

-- of another number than the one that is set
pub set_other : (xs : List ℕ) (n j x : ℕ) → j ≢ n → floor_at (slice_set xs n x) j ≡ floor_at xs j
set_other [] n j x other = refl
set_other (y ∷ xs) zero zero x other = absurd (other refl)
set_other (y ∷ xs) zero (suc j) x other = refl
set_other (y ∷ xs) (suc n) zero x other = refl
set_other (y ∷ xs) (suc n) (suc j) x other = set_other xs n j x (λ e. other (ap suc e))

-- where nothing is known
pub none_known : (n j : ℕ) → floor_at (replicate n 0) j ≡ 0
none_known zero zero = refl
none_known zero (suc j) = refl
none_known (suc n) zero = refl
none_known (suc n) (suc j) = none_known n j

-- where that of one is forgotten
pub forgotten_lower : (o : Option ℕ) (xs : List ℕ) (j : ℕ) → floor_at (forgotten o xs) j ≤ floor_at xs j
forgotten_lower None xs j = omega arith
forgotten_lower (Some n) xs j = set_lower xs n j 0 (omega arith)

pub forgotten_none : (o : Option ℕ) (n : ℕ) (xs : List ℕ) → o ≡ Some n → floor_at (forgotten o xs) n ≤ 0
forgotten_none None n xs is = absurd (cc)
forgotten_none (Some k) n xs is = (let e : k ≡ n = cc in subst (λ (i : ℕ). floor_at (slice_set xs k 0) i ≤ 0) e (set_here xs k 0))

-- where no more is known of pending cores
lowered_lower : (most r : ℕ) (xs : List ℕ) (j : ℕ) → floor_at (lowered most r xs) j ≤ floor_at xs j
lowered_lower most r xs j = set_lower xs r j (min (floor_at xs r) most) (omega arith)

lowered_here : (most r : ℕ) (xs : List ℕ) → floor_at (lowered most r xs) r ≤ most
lowered_here most r xs = (let a = set_here xs r (min (floor_at xs r) most) in omega (arith, a))

pub lowered_none : (r : ℕ) (xs : List ℕ) → slice_set xs r 0 ≡ lowered 0 r xs
lowered_none r xs = (let e : 0 ≡ min (floor_at xs r) 0 = omega arith in ap (slice_set xs r) e)

if_lowered : (most : ℕ) (b : Bool) (r : ℕ) (xs : List ℕ) (j : ℕ) → floor_at (cond b (lowered most r xs) xs) j ≤ floor_at xs j
if_lowered most true r xs j = lowered_lower most r xs j
if_lowered most false r xs j = omega arith

pub pended_lower : (most r : ℕ) (cores : List (Option Resource)) (xs : List ℕ) (j : ℕ) → floor_at (pended most r cores xs) j ≤ floor_at xs j
pended_lower most r [] xs j = omega arith
pended_lower most r (None ∷ cores) xs j = pended_lower most (suc r) cores xs j
pended_lower most r (Some c ∷ cores) xs j =
    let a = pended_lower most (suc r) cores (cond c.pending (lowered most r xs) xs) j in
    let b = if_lowered most c.pending r xs j in
    omega (arith, a, b)

pended_from : (most r k : ℕ) (cores : List (Option Resource)) (xs : List ℕ) (c : Resource) → at_place cores k ≡ Some c → c.pending ≡ true → floor_at (pended most r cores xs) (r + k) ≤ most
pended_from most r k [] xs c at is = absurd (none k at)
  where
    none : (i : ℕ) → at_place [] i ≡ Some c → ⊥
    none zero e = cc
    none (suc i) e = cc
pended_from most r zero (None ∷ cores) xs c at is = absurd (cc)
pended_from most r (suc k) (None ∷ cores) xs c at is =
    let e : suc r + k ≡ r + suc k = omega arith in
    subst (λ (i : ℕ). floor_at (pended most (suc r) cores xs) i ≤ most) e (pended_from most (suc r) k cores xs c at is)
pended_from most r zero (Some d ∷ cores) xs c at is =
    let same : c ≡ d = cc in
    let pends : d.pending ≡ true = subst (λ (x : Resource). x.pending ≡ true) same is in
    let number : r + 0 ≡ r = omega arith in
    let a = pended_lower most (suc r) cores (cond d.pending (lowered most r xs) xs) (r + 0) in
    let b : floor_at (cond d.pending (lowered most r xs) xs) (r + 0) ≤ most =
    subst (λ (x : Bool). floor_at (cond x (lowered most r xs) xs) (r + 0) ≤ most) (sym pends) (subst (λ (i : ℕ). floor_at (lowered most r xs) i ≤ most) (sym number) (lowered_here most r xs)) in
    omega (arith, a, b)
pended_from most r (suc k) (Some d ∷ cores) xs c at is =
    let e : suc r + k ≡ r + suc k = omega arith in
    subst (λ (i : ℕ). floor_at (pended most (suc r) cores (cond d.pending (lowered most r xs) xs)) i ≤ most) e (pended_from most (suc r) k cores (cond d.pending (lowered most r xs) xs) c at is)

pub pended_at : (most k : ℕ) (cores : List (Option Resource)) (xs : List ℕ) (c : Resource) → at_place cores k ≡ Some c → c.pending ≡ true → floor_at (pended most 0 cores xs) k ≤ most
pended_at most k cores xs c at is =
    let e : 0 + k ≡ k = omega arith in
    subst (λ (i : ℕ). floor_at (pended most 0 cores xs) i ≤ most) e (pended_from most 0 k cores xs c at is)

-- where each is as high as is asked
pub behind_if_asked : (kind own : ℕ) (xs : List ℕ) → length xs ≡ 64 → AreAsked kind own 0 xs → AreBehind kind own 0 xs
behind_if_asked kind own xs count asked = λ n from inside.
    let e : 0 + n ≡ n = omega arith in
    subst (λ (i : ℕ). least_kind kind own i ≤ floor_at xs n) e (asked n (omega (arith, inside, count)))

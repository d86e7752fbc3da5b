-- Sums over the units of a pool, each of which stands in its list once.
use Rattle.std.proofs.Common.{◌≡◌, ◌≢◌, ◌≤◌, ◌<◌, ◌+◌, ◌*◌, ℕ, zero, suc, Bool, true, false, List, [], ◌∷◌, ◌++◌, refl, arith, cond, subst, sym, ap, ◌∙◌, length}
use Rattle.std.specs.Prelude.{Some, slice_get, map, ◌==◌}
use Rattle.std.specs.List.{AllByRecursion}
use Rattle.sched_base.specs.Units.{unit_id}
use Rattle.sched_base.specs.declared.UnitId.{UnitId}
use Rattle.sched_model.specs.declared.config.DomConfig.{DomConfig}
use Rattle.sched_model.specs.declared.config.DomParams.TheVariants as dom_params
use Rattle.sched_model.specs.declared.machine.Machine.{Machine}
use Rattle.sched_model.specs.Actions.{configured_units}
use Rattle.sched_model.specs.Places.{numbers_from, same_unit}
use Rattle.sched_laws.proofs.EachPlace.{by_cond}
use Rattle.undisturbed_laws.specs.Undisturbed.{HasHome}
use Rattle.share_laws.specs.Shares.{HasWeight, IsPlainCredit2, total_weight, weight_of, weighted_units}

-- what f makes of the units, added up, and how often a unit stands in the list
abbrev pub total_of : (UnitId → ℕ) → List (UnitId × ℕ) → ℕ
total_of f [] = 0
total_of f (e ∷ units) = f e.0 + total_of f units

abbrev pub one_if_same : UnitId → UnitId → ℕ
one_if_same w u = cond (same_unit w u) 1 0

abbrev pub count_of : UnitId → List (UnitId × ℕ) → ℕ
count_of w [] = 0
count_of w (e ∷ units) = one_if_same w e.0 + count_of w units

pub total_sum : (f g h : UnitId → ℕ) → ((u : UnitId) → h u ≡ f u + g u) → (units : List (UnitId × ℕ)) → total_of h units ≡ total_of f units + total_of g units
total_sum f g h sum [] = refl
total_sum f g h sum (e ∷ units) = (let a = sum e.0 in let b = total_sum f g h sum units in omega (arith, a, b))

pub total_none : (f : UnitId → ℕ) → ((u : UnitId) → f u ≡ 0) → (units : List (UnitId × ℕ)) → total_of f units ≡ 0
total_none f none [] = refl
total_none f none (e ∷ units) = (let a = none e.0 in let b = total_none f none units in omega (arith, a, b))

-- a sum over one unit alone
pub total_single : (w : UnitId) (x : ℕ) (f : UnitId → ℕ) → ((u : UnitId) → f u ≡ cond (same_unit w u) x 0) → (units : List (UnitId × ℕ)) → total_of f units ≡ count_of w units * x
total_single w x f is [] = omega arith
total_single w x f is (e ∷ units) = by_unit (same_unit w e.0) (is e.0) (total_single w x f is units)
  where
    by_unit : (b : Bool) → f e.0 ≡ cond b x 0 → total_of f units ≡ count_of w units * x → f e.0 + total_of f units ≡ (cond b 1 0 + count_of w units) * x
    by_unit true is rest = grind (arith, is, rest)
    by_unit false is rest = grind (arith, is, rest)

-- a bound of each but one
pub total_bound : (v : UnitId) (time : UnitId → ℕ) (wv k : ℕ) (units : List (UnitId × ℕ)) → AllByRecursion (λ (e : UnitId × ℕ). time e.0 * wv ≤ time v * e.1 + cond (same_unit v e.0) 0 k) units → total_of time units * wv + count_of v units * k ≤ time v * total_weight units + length units * k
total_bound v time wv k [] each = omega arith
total_bound v time wv k (e ∷ units) each = by_unit (same_unit v e.0) each.0 (total_bound v time wv k units each.1)
  where
    by_unit : (b : Bool) → time e.0 * wv ≤ time v * e.1 + cond b 0 k → total_of time units * wv + count_of v units * k ≤ time v * total_weight units + length units * k
        → (time e.0 + total_of time units) * wv + (cond b 1 0 + count_of v units) * k ≤ time v * (e.1 + total_weight units) + suc (length units) * k
    by_unit true here rest = sums (time e.0) (total_of time units) (count_of v units) (time v) e.1 (total_weight units) (length units) here rest
      where
        sums : (a b c t w ws n : ℕ) → a * wv ≤ t * w + 0 → b * wv + c * k ≤ t * ws + n * k → (a + b) * wv + (1 + c) * k ≤ t * (w + ws) + suc n * k
        sums a b c t w ws n here rest = omega (arith, here, rest)
    by_unit false here rest = sums (time e.0) (total_of time units) (count_of v units) (time v) e.1 (total_weight units) (length units) here rest
      where
        sums : (a b c t w ws n : ℕ) → a * wv ≤ t * w + k → b * wv + c * k ≤ t * ws + n * k → (a + b) * wv + (0 + c) * k ≤ t * (w + ws) + suc n * k
        sums a b c t w ws n here rest = omega (arith, here, rest)

-- a unit stands once in the list of its pool
count_append : (w : UnitId) (xs ys : List (UnitId × ℕ)) → count_of w (xs ++ ys) ≡ count_of w xs + count_of w ys
count_append w [] ys = omega arith
count_append w (x ∷ xs) ys = (let r = count_append w xs ys in omega (arith, r))

is_other : (w : UnitId) (d n : ℕ) → w.dom.0 ≢ d → same_unit w (unit_id d n) ≡ false
is_other w d n other = grind (arith, other)

is_other_index : (w : UnitId) (d n : ℕ) → w.n ≢ n → same_unit w (unit_id d n) ≡ false
is_other_index w d n other = grind (arith, other)

is_this : (w : UnitId) (d n : ℕ) → w.dom.0 ≡ d → w.n ≡ n → same_unit w (unit_id d n) ≡ true
is_this w d n dom index = grind (arith, dom, index)

abbrev numbered : ℕ → ℕ → ℕ → ℕ → List (UnitId × ℕ)
numbered d x a c = map (λ n. (unit_id d n, x)) (numbers_from a c)

count_other : (w : UnitId) (d x a c : ℕ) → w.dom.0 ≢ d → count_of w (numbered d x a c) ≡ 0
count_other w d x a zero other = refl
count_other w d x a (suc c) other = (let e : one_if_same w (unit_id d a) ≡ 0 = ap (λ b. cond b 1 0) (is_other w d a other) in let r = count_other w d x (suc a) c other in omega (arith, e, r))

count_before : (w : UnitId) (d x a c : ℕ) → w.n < a → count_of w (numbered d x a c) ≡ 0
count_before w d x a zero low = refl
count_before w d x a (suc c) low =
    (let ne : w.n ≢ a = omega (arith, low) in let e : one_if_same w (unit_id d a) ≡ 0 = ap (λ b. cond b 1 0) (is_other_index w d a ne) in let r = count_before w d x (suc a) c (omega (arith, low)) in omega (arith, e, r))

count_here : (w : UnitId) (d x a c k : ℕ) → w.dom.0 ≡ d → w.n ≡ a + k → k < c → count_of w (numbered d x a c) ≡ 1
count_here w d x a zero k dom index low = absurd (omega (arith, low))
count_here w d x a (suc c) zero dom index low =
    let same : w.n ≡ a = omega (arith, index) in
    let e : one_if_same w (unit_id d a) ≡ 1 = ap (λ b. cond b 1 0) (is_this w d a dom same) in
    let r = count_before w d x (suc a) c (omega (arith, same)) in
    omega (arith, e, r)
count_here w d x a (suc c) (suc k) dom index low =
    let ne : w.n ≢ a = omega (arith, index) in
    let e : one_if_same w (unit_id d a) ≡ 0 = ap (λ b. cond b 1 0) (is_other_index w d a ne) in
    let r = count_here w d x (suc a) c k dom (omega (arith, index)) (omega (arith, low)) in
    omega (arith, e, r)

module _ (g i : ℕ) where
  abbrev listed : ℕ → DomConfig → List (UnitId × ℕ)
  listed d domain = cond (domain.home.0 == i) (map (λ n. (unit_id d n, weight_of domain.params)) (numbers_from 0 (configured_units g domain))) []

  listed_other : (w : UnitId) (d : ℕ) (domain : DomConfig) → w.dom.0 ≢ d → count_of w (listed d domain) ≡ 0
  listed_other w d domain other = by_cond (λ (us : List (UnitId × ℕ)). count_of w us ≡ 0) (domain.home.0 == i) _ [] (λ is. count_other w d (weight_of domain.params) 0 (configured_units g domain) other) (λ is. refl)

  count_later : (w : UnitId) (d : ℕ) (domains : List DomConfig) → w.dom.0 < d → count_of w (weighted_units g i d domains) ≡ 0
  count_later w d [] low = refl
  count_later w d (domain ∷ domains) low =
      let a = count_append w (listed d domain) (weighted_units g i (suc d) domains) in
      let b = listed_other w d domain (omega (arith, low)) in
      let c = count_later w (suc d) domains (omega (arith, low)) in
      omega (arith, a, b, c)

  pub count_once : (w : UnitId) (d k : ℕ) (domains : List DomConfig) (config : DomConfig) → w.dom.0 ≡ d + k → slice_get domains k ≡ Some config → config.home.0 ≡ i → w.n < configured_units g config → count_of w (weighted_units g i d domains) ≡ 1
  count_once w d k [] config dom is home low = absurd (cc)
  count_once w d zero (domain ∷ domains) config dom is home low =
      let same : domain ≡ config = cc in
      let at : w.dom.0 ≡ d = omega (arith, dom) in
      let a = count_append w (listed d domain) (weighted_units g i (suc d) domains) in
      let here : count_of w (listed d config) ≡ 1 = by_cond (λ (us : List (UnitId × ℕ)). count_of w us ≡ 1) (config.home.0 == i) _ [] (λ yes_home. count_here w d (weight_of config.params) 0 (configured_units g config) w.n at (omega arith) low) (λ no_home. absurd (not_home config.home.0 home no_home)) in
      let b : count_of w (listed d domain) ≡ 1 = subst (λ (c : DomConfig). count_of w (listed d c) ≡ 1) (sym same) here in
      let c = count_later w (suc d) domains (omega (arith, at)) in
      omega (arith, a, b, c)
    where
      not_home : (n : ℕ) → n ≡ i → (n == i) ≡ false → ⊥
      not_home n home other = grind (arith, home, other)
  count_once w d (suc k) (domain ∷ domains) config dom is home low =
      let a = count_append w (listed d domain) (weighted_units g i (suc d) domains) in
      let b = listed_other w d domain (omega (arith, dom)) in
      let c = count_once w (suc d) k domains config (omega (arith, dom)) is home low in
      omega (arith, a, b, c)

-- each unit of the list is one of the pool, with its weight
pub each_append : {X : Type 0} (P : X → Type 0) (xs ys : List X) → AllByRecursion P xs → AllByRecursion P ys → AllByRecursion P (xs ++ ys)
each_append P [] ys a b = b
each_append P (x ∷ xs) ys a b = (a.0, each_append P xs ys a.1 b)

module _ (m : Machine) (i r rate : ℕ) (plain : IsPlainCredit2 m i r rate) where
  abbrev Weighs : UnitId × ℕ → Type 0
  Weighs e = HasWeight m i e.0 e.1

  weighs : (d : ℕ) (domain : DomConfig) → HasHome m i d domain → (a c : ℕ) → a + c ≡ configured_units m.config.granularity domain → AllByRecursion Weighs (numbered d (weight_of domain.params) a c)
  weighs d domain home a zero sum = tt
  weighs d domain home a (suc c) sum =
      let free = plain.uncapped d domain home in
      let weight : weight_of domain.params ≡ free.0 = ap weight_of free.1 in
      (record { domain = domain; home = home; params = free.1 ∙ ap (λ n. dom_params.Credit2 n 0) (sym weight); inside = omega (arith, sum) }, weighs d domain home (suc a) c (omega (arith, sum)))

  weighs_from : (d : ℕ) (domains : List DomConfig) → ((k : ℕ) (c : DomConfig) → slice_get domains k ≡ Some c → slice_get m.config.domains (d + k) ≡ Some c) → AllByRecursion Weighs (weighted_units m.config.granularity i d domains)
  weighs_from d [] at = tt
  weighs_from d (domain ∷ domains) at =
      each_append Weighs (listed m.config.granularity i d domain) (weighted_units m.config.granularity i (suc d) domains)
      (by_cond (AllByRecursion Weighs) (domain.home.0 == i) _ [] (λ is. weighs d domain (record { there = (let e : d + 0 ≡ d = omega arith in subst (λ k. slice_get m.config.domains k ≡ Some domain) e (at 0 domain refl)); home = is_home domain.home.0 is }) 0 (configured_units m.config.granularity domain) (omega arith)) (λ is. tt))
      (weighs_from (suc d) domains (λ k c is. (let e : d + suc k ≡ suc d + k = omega arith in subst (λ n. slice_get m.config.domains n ≡ Some c) e (at (suc k) c is))))
    where
      is_home : (n : ℕ) → (n == i) ≡ true → n ≡ i
      is_home n is = grind (arith, is)

  pub all_weigh : AllByRecursion Weighs (weighted_units m.config.granularity i 0 m.config.domains)
  all_weigh = weighs_from 0 m.config.domains (λ k c is. (let e : k ≡ 0 + k = omega arith in subst (λ n. slice_get m.config.domains n ≡ Some c) e is))

  -- a unit has one weight
  pub same_weight : (u v : UnitId) (wu wv : ℕ) → u ≡ v → HasWeight m i u wu → HasWeight m i v wv → wu ≡ wv
  same_weight u v wu wv same has_u has_v =
      let there_u = has_u.home.there in
      let there_v = has_v.home.there in
      let dom : slice_get m.config.domains u.dom.0 ≡ slice_get m.config.domains v.dom.0 = ap (λ (x : UnitId). slice_get m.config.domains x.dom.0) same in
      let domain : has_u.domain ≡ has_v.domain = cc in
      let a = has_u.params in
      let b = has_v.params in
      let params : has_u.domain.params ≡ has_v.domain.params = ap (λ (c : DomConfig). c.params) domain in
      cc

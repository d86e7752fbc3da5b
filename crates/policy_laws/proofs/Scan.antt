-- The scans of a list of timers: what they find, and of what it is the first.
use Rattle.std.proofs.Common.{◌≡◌, ◌≤◌, ◌<◌, ℕ, true, false, List, [], ◌∷◌, ◌++◌, refl, subst, arith, ◌⊎◌, inl, inr, cond}
use Rattle.std.specs.Prelude.{Option, Some, None, nat_le, nat_lt}
use Rattle.std.specs.List.{AllByRecursion}
use Rattle.std.proofs.lemmas.Bool.{leb-true, leb-false, ltb-true, ltb-false}
use Rattle.sched_base.proofs.Lists.{AllByRecursion-map}
use Rattle.sched_ops.specs.Timers.{Armed, first_due_timer, soonest_timer, next_armed}
use Rattle.policy_laws.specs.TimerOrder.{IsNotAfter}

-- what holds of each of two lists holds of both, one after the other, and back
pub each-append : {X : Type 0} (P : X → Type 0) (xs ys : List X) → AllByRecursion P xs → AllByRecursion P ys → AllByRecursion P (xs ++ ys)
each-append P [] ys front back = back
each-append P (x ∷ xs) ys front back = (front.0, each-append P xs ys front.1 back)

-- no timer comes before those ahead of it in the list
abbrev pub AreInOrder : List Armed → Type 0
AreInOrder [] = Unit {0}
AreInOrder (x ∷ xs) = AllByRecursion (λ (e : Armed). IsNotAfter x.1 e.1) xs × AreInOrder xs

pub in_order-append : (xs ys : List Armed) → AreInOrder xs → AreInOrder ys → AllByRecursion (λ (x : Armed). AllByRecursion (λ (y : Armed). IsNotAfter x.1 y.1) ys) xs → AreInOrder (xs ++ ys)
in_order-append [] ys front back each = back
in_order-append (x ∷ xs) ys front back each = (each-append (λ (e : Armed). IsNotAfter x.1 e.1) xs ys front.0 each.0, in_order-append xs ys front.1 back each.1)

module _ (t : ℕ) where
  -- the first whose moment has come is one of the list
  pub first_one : (P : Armed → Type 0) (xs : List Armed) (x : Armed) → AllByRecursion P xs → first_due_timer t xs ≡ Some x → P x
  first_one P [] x each is = absurd (cc)
  first_one P (y ∷ xs) x each is =
      elim (nat_le y.0.0 t) as (λ b. cond b (Some y) (first_due_timer t xs) ≡ Some x → P x) [
        | true ↦ λ e. (let same : y ≡ x = cc in subst P same each.0)
        | false ↦ λ e. first_one P xs x each.1 e
      ] is

  -- its moment has come
  pub come_first : (xs : List Armed) (x : Armed) → first_due_timer t xs ≡ Some x → x.0.0 ≤ t
  come_first [] x is = absurd (cc)
  come_first (y ∷ xs) x is =
      elim (nat_le y.0.0 t) as (λ b. nat_le y.0.0 t ≡ b → cond b (Some y) (first_due_timer t xs) ≡ Some x → x.0.0 ≤ t) [
        | true ↦ λ b e. (let same : y ≡ x = cc in subst (λ (z : Armed). z.0.0 ≤ t) same (leb-true y.0.0 t b))
        | false ↦ λ b e. come_first xs x e
      ] refl is

  -- none has come where there is no such
  pub all_later : (xs : List Armed) → first_due_timer t xs ≡ None → AllByRecursion (λ (e : Armed). t < e.0.0) xs
  all_later [] is = tt
  all_later (y ∷ xs) is =
      elim (nat_le y.0.0 t) as (λ b. nat_le y.0.0 t ≡ b → cond b (Some y) (first_due_timer t xs) ≡ None → AllByRecursion (λ (e : Armed). t < e.0.0) (y ∷ xs)) [
        | true ↦ λ b e. absurd (cc)
        | false ↦ λ b e. (leb-false y.0.0 t b, all_later xs e)
      ] refl is

  -- it comes after none that has come
  pub first_of_come : (xs : List Armed) (x : Armed) → AreInOrder xs → first_due_timer t xs ≡ Some x → AllByRecursion (λ (e : Armed). e.0.0 ≤ t → IsNotAfter x.1 e.1) xs
  first_of_come [] x order is = tt
  first_of_come (y ∷ xs) x order is =
      elim (nat_le y.0.0 t) as (λ b. nat_le y.0.0 t ≡ b → cond b (Some y) (first_due_timer t xs) ≡ Some x → AllByRecursion (λ (e : Armed). e.0.0 ≤ t → IsNotAfter x.1 e.1) (y ∷ xs)) [
        | true ↦ λ b e.
            let same : y ≡ x = cc in
            subst (λ (z : Armed). AllByRecursion (λ (e : Armed). e.0.0 ≤ t → IsNotAfter z.1 e.1) (y ∷ xs)) same
            (λ has. record { by_domain = omega arith; then_by_unit = λ d. omega arith }, AllByRecursion-map (λ (e : Armed). IsNotAfter y.1 e.1) (λ (e : Armed). e.0.0 ≤ t → IsNotAfter y.1 e.1) (λ e after has. after) xs order.0)
        | false ↦ λ b e. (λ has. absurd (let late = leb-false y.0.0 t b in omega (arith, late, has)), first_of_come xs x order.1 e)
      ] refl is

-- the soonest is the best so far or one of the list
pub soonest_one : (P : Armed → Type 0) (best : Armed) (xs : List Armed) (x : Armed) → P best → AllByRecursion P xs → soonest_timer (Some best) xs ≡ Some x → P x
soonest_one P best [] x own each is = (let same : best ≡ x = cc in subst P same own)
soonest_one P best (y ∷ xs) x own each is =
    elim (nat_lt y.0.0 best.0.0) as (λ b. soonest_timer (Some (cond b y best)) xs ≡ Some x → P x) [
      | true ↦ λ e. soonest_one P y xs x each.0 each.1 e
      | false ↦ λ e. soonest_one P best xs x own each.1 e
    ] is

-- it has no later moment than any of these
pub soonest_least : (best : Armed) (xs : List Armed) (x : Armed) → soonest_timer (Some best) xs ≡ Some x → (x.0.0 ≤ best.0.0) × AllByRecursion (λ (e : Armed). x.0.0 ≤ e.0.0) xs
soonest_least best [] x is = (let same : best ≡ x = cc in (subst (λ (z : Armed). z.0.0 ≤ best.0.0) same (omega arith), tt))
soonest_least best (y ∷ xs) x is =
    elim (nat_lt y.0.0 best.0.0) as (λ b. nat_lt y.0.0 best.0.0 ≡ b → soonest_timer (Some (cond b y best)) xs ≡ Some x → (x.0.0 ≤ best.0.0) × AllByRecursion (λ (e : Armed). x.0.0 ≤ e.0.0) (y ∷ xs)) [
      | true ↦ λ b e. (let sooner = ltb-true y.0.0 best.0.0 b in let r = soonest_least y xs x e in let low = r.0 in (omega (arith, sooner, low), (low, r.1)))
      | false ↦ λ b e. (let later = ltb-false y.0.0 best.0.0 b in let r = soonest_least best xs x e in let low = r.0 in (low, (omega (arith, later, low), r.1)))
    ] refl is

-- there is a soonest unless the list is empty
pub soonest_some : (best : Armed) (xs : List Armed) → soonest_timer (Some best) xs ≡ None → ⊥
soonest_some best [] is = absurd (cc)
soonest_some best (y ∷ xs) is = soonest_some (cond (nat_lt y.0.0 best.0.0) y best) xs is

-- which of the two it is
next_cases : (o soon : Option Armed) (x : Armed) → elim o as (λ _. Option Armed) [ Some y ↦ Some y | None ↦ soon ] ≡ Some x → (o ≡ Some x) ⊎ ((o ≡ None) × (soon ≡ Some x))
next_cases None soon x is = inr (refl, is)
next_cases (Some y) soon x is = inl is

module _ (t : ℕ) where
  pub next_none : (xs : List Armed) → next_armed t xs ≡ None → xs ≡ []
  next_none [] is = refl
  next_none (y ∷ xs) is =
      elim (first_due_timer t (y ∷ xs)) as (λ o. elim o as (λ _. Option Armed) [ Some z ↦ Some z | None ↦ soonest_timer (Some y) xs ] ≡ None → (y ∷ xs) ≡ []) [
        | None ↦ λ e. absurd (soonest_some y xs e)
        | Some z ↦ λ e. absurd (cc)
      ] is

  pub next_one : (P : Armed → Type 0) (xs : List Armed) (x : Armed) → AllByRecursion P xs → next_armed t xs ≡ Some x → P x
  next_one P [] x each is = absurd (cc)
  next_one P (y ∷ xs) x each is =
      elim (next_cases (first_due_timer t (y ∷ xs)) (soonest_timer (Some y) xs) x is) [
        | inl first ↦ first_one t P (y ∷ xs) x each first
        | inr later ↦ soonest_one P y xs x each.0 each.1 later.1
      ]

  pub next_first : (xs : List Armed) (x : Armed) → AreInOrder xs → next_armed t xs ≡ Some x → AllByRecursion (λ (e : Armed). e.0.0 ≤ t → (x.0.0 ≤ t) × IsNotAfter x.1 e.1) xs
  next_first xs x order is =
      elim (next_cases (first_due_timer t xs) (soonest_timer None xs) x is) [
        | inl first ↦ AllByRecursion-map (λ (e : Armed). e.0.0 ≤ t → IsNotAfter x.1 e.1) (λ (e : Armed). e.0.0 ≤ t → (x.0.0 ≤ t) × IsNotAfter x.1 e.1) (λ e after has. (come_first t xs x first, after has)) xs (first_of_come t xs x order first)
        | inr later ↦ AllByRecursion-map (λ (e : Armed). t < e.0.0) (λ (e : Armed). e.0.0 ≤ t → (x.0.0 ≤ t) × IsNotAfter x.1 e.1) (λ e late has. absurd (omega (arith, late, has))) xs (all_later t xs later.0)
      ]

  pub next_least : (xs : List Armed) (x : Armed) → next_armed t xs ≡ Some x → (x.0.0 ≤ t) ⊎ AllByRecursion (λ (e : Armed). x.0.0 ≤ e.0.0) xs
  next_least [] x is = inr tt
  next_least (y ∷ xs) x is =
      elim (next_cases (first_due_timer t (y ∷ xs)) (soonest_timer (Some y) xs) x is) [
        | inl first ↦ inl (come_first t (y ∷ xs) x first)
        | inr later ↦ inr (soonest_least y xs x later.1)
      ]

-- A list of different units of another list is no longer than that one.
use Rattle.std.proofs.Common.{◌≡◌, ◌≢◌, ◌≤◌, ◌+◌, ℕ, suc, true, false, List, [], ◌∷◌, ◌++◌, refl, arith, subst, sym, ap, cond, length}
use Rattle.std.specs.List.{AllByRecursion}
use Rattle.sched_base.specs.declared.UnitId.{UnitId}
use Rattle.sched_base.proofs.Lists.{AllByRecursion-map}
use Rattle.sched_model.specs.Places.{same_unit}
use Rattle.sched_laws.proofs.Choices.{same_unit_same}
use Rattle.sched_laws.proofs.Counts.{same_unit_refl}
use Rattle.sched_laws.specs.Counts.{one, times}
use Rattle.sched_laws.proofs.OnePlace.{both_of, there_each}

-- the list without the first of these units
abbrev drop_one : UnitId → List UnitId → List UnitId
drop_one u [] = []
drop_one u (w ∷ units) = elim (same_unit u w) [ true ↦ units | false ↦ w ∷ drop_one u units ]

length_drop : (u : UnitId) (units : List UnitId) → 1 ≤ times u units → suc (length (drop_one u units)) ≡ length units
length_drop u [] some = absurd (omega (arith, some))
length_drop u (w ∷ units) some =
    elim (same_unit u w) as (λ b. 1 ≤ cond b 1 0 + times u units → suc (length (elim b as (λ _. List UnitId) [ true ↦ units | false ↦ w ∷ drop_one u units ])) ≡ length (w ∷ units)) [
      | true ↦ λ e. omega arith
      | false ↦ λ e. (let r = length_drop u units (omega (arith, e)) in omega (arith, r))
    ] some

times_drop : (u v : UnitId) (units : List UnitId) → u ≢ v → times v (drop_one u units) ≡ times v units
times_drop u v [] other = refl
times_drop u v (w ∷ units) other =
    elim (same_unit u w) as (λ b. same_unit u w ≡ b → times v (elim b as (λ _. List UnitId) [ true ↦ units | false ↦ w ∷ drop_one u units ]) ≡ one v w + times v units) [
      | true ↦ λ is. (let z : one v w ≡ 0 = not_one (subst (λ (x : UnitId). v ≢ x) (same_unit_same u w is) (λ e. other (sym e))) in omega (arith, z))
      | false ↦ λ is. ap (λ k. one v w + k) (times_drop u v units other)
    ] refl
  where
    not_one : v ≢ w → one v w ≡ 0
    not_one apart = elim (same_unit v w) as (λ b. same_unit v w ≡ b → ◌≡◌ {A = ℕ} (cond b 1 0) 0) [ true ↦ λ is. absurd (apart (same_unit_same v w is)) | false ↦ λ is. refl ] refl

-- a list of different units of another list is no longer
pub no_longer : (xs ys : List UnitId) → ((u : UnitId) → times u xs ≤ 1) → AllByRecursion (λ u. 1 ≤ times u ys) xs → length xs ≤ length ys
no_longer [] ys once has = omega arith
no_longer (x ∷ xs) ys once has =
    let less = length_drop x ys has.0 in
    let alone : times x xs ≡ 0 = (let o = once x in let s : one x x ≡ 1 = (let e = same_unit_refl x in rw e refl) in omega (arith, o, s)) in
    let rest = no_longer xs (drop_one x ys) (λ u. (let o = once u in omega (arith, o)))
    (AllByRecursion-map (λ w. (1 ≤ times w xs) × (1 ≤ times w ys)) (λ w. 1 ≤ times w (drop_one x ys))
    (λ w both. (let apart : x ≢ w = λ e. (let b = subst (λ (u : UnitId). 1 ≤ times u xs) (sym e) both.0 in omega (arith, alone, b)) in let e = times_drop x w ys apart in let b = both.1 in omega (arith, e, b)))
    xs (both_of (λ w. 1 ≤ times w xs) (λ w. 1 ≤ times w ys) xs (there_each xs) has.1)) in
    omega (arith, less, rest)

pub times-append : (u : UnitId) (xs ys : List UnitId) → times u (xs ++ ys) ≡ times u xs + times u ys
times-append u [] ys = omega arith
times-append u (x ∷ xs) ys = (let r = times-append u xs ys in omega (arith, r))

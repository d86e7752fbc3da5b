-- The set of a pool's cores has the cores that stand at a place.
use Rattle.std.proofs.Common.{◌≡◌, ◌<◌, ◌+◌, ◌*◌, ◌/◌, ◌%◌, ℕ, zero, suc, Bool, true, false, List, [], ◌∷◌, refl, arith, sym, ◌∙◌, ap, cond}
use Rattle.std.specs.Prelude.{◌^◌, ◌==◌, Option, Some, None, is_some}
use Rattle.std.proofs.Math.Nat.{div-div-eq-div-mul, pow-succ'}
use Rattle.std.proofs.lemmas.Nat.{div-mul-add, mod-mul-add}
use Rattle.sched_model.specs.Places.{at_place}
use Rattle.sched_model.specs.State.{has_core_bit}
use Rattle.sched_model.specs.Pool.{cores_from}
use Rattle.sched_model.specs.declared.state.Resource.{Resource}

-- one where something stands
abbrev bit_of : Option Resource → ℕ
bit_of o = cond (is_some o) 1 0

cores_shift : (k : ℕ) (cores : List (Option Resource)) → cores_from k cores ≡ 2 ^ k * cores_from 0 cores
cores_shift k [] = grind arith
cores_shift k (c ∷ cores) =
    let here = cores_shift (suc k) cores in
    let one = cores_shift 1 cores in
    let p : 2 ^ suc k ≡ 2 * 2 ^ k = pow-succ' 2 k in
    by_core (is_some c) here one p
  where
    by_core : (b : Bool) → cores_from (suc k) cores ≡ 2 ^ suc k * cores_from 0 cores → cores_from 1 cores ≡ 2 ^ 1 * cores_from 0 cores → 2 ^ suc k ≡ 2 * 2 ^ k → cond b (2 ^ k) 0 + cores_from (suc k) cores ≡ 2 ^ k * (cond b (2 ^ 0) 0 + cores_from 1 cores)
    by_core true here one p = rw (here, one, p) (grind arith)
    by_core false here one p = rw (here, one, p) (grind arith)

cores_cons : (c : Option Resource) (cores : List (Option Resource)) → cores_from 0 (c ∷ cores) ≡ cores_from 0 cores * 2 + bit_of c
cores_cons None cores = (let e = cores_shift 1 cores in omega (arith, e))
cores_cons (Some c) cores = (let e = cores_shift 1 cores in omega (arith, e))

bit_small : (c : Option Resource) → bit_of c < 2
bit_small None = omega arith
bit_small (Some c) = omega arith

first_bit : (c : Option Resource) (x : ℕ) → ((x * 2 + bit_of c) / 2 ^ 0 % 2 == 1) ≡ is_some c
first_bit c x =
    let whole : (x * 2 + bit_of c) / 1 ≡ x * 2 + bit_of c = grind arith in
    let low : (x * 2 + bit_of c) % 2 ≡ bit_of c = mod-mul-add x 2 (bit_of c) (bit_small c) in
    ap (λ y. y % 2 == 1) whole ∙ ap (λ y. y == 1) low ∙ of_bit c
  where
    of_bit : (c : Option Resource) → (bit_of c == 1) ≡ is_some c
    of_bit None = refl
    of_bit (Some c) = refl

pub home_has : (cores : List (Option Resource)) (r : ℕ) → has_core_bit (cores_from 0 cores) r ≡ is_some (at_place cores r)
home_has [] r = none r
  where
    none : (r : ℕ) → has_core_bit 0 r ≡ false
    none r = grind arith
home_has (c ∷ cores) zero = ap (λ x. has_core_bit x 0) (cores_cons c cores) ∙ first_bit c (cores_from 0 cores)
home_has (c ∷ cores) (suc r) =
    let x : ℕ = cores_from 0 cores in
    let p : 2 ^ suc r ≡ 2 * 2 ^ r = pow-succ' 2 r in
    let half : (x * 2 + bit_of c) / 2 ≡ x = div-mul-add x 2 (bit_of c) (bit_small c) in
    let shift : (x * 2 + bit_of c) / 2 ^ suc r ≡ x / 2 ^ r = ap (λ y. (x * 2 + bit_of c) / y) p ∙ sym (div-div-eq-div-mul (x * 2 + bit_of c) 2 (2 ^ r)) ∙ ap (λ y. y / 2 ^ r) half in
    ap (λ y. has_core_bit y (suc r)) (cores_cons c cores) ∙ ap (λ y. y % 2 == 1) shift ∙ home_has cores r

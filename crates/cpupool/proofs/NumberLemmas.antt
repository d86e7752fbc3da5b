-- Counts of units.
use Rattle.std.proofs.Common.{◌≡◌, ◌+◌, ◌-◌, ◌*◌, ◌/◌, ◌^◌, ◌≤◌, ◌<◌, ℕ, zero, suc, List, ◌∷◌, ◌∙◌, ap, add-one, add-zero, zero-add, true, false, cond, sym, map, [], ◌++◌, arith}
use Rattle.std.proofs.lemmas.List.Sums.{sum_by-cons}
use Rattle.std.specs.Prelude.{if◌then◌else◌}
use Rattle.sched_model.specs.Places.{numbers_from}
use Rattle.sched_model.proofs.PlaceLemmas.{numbers_from-first}
use Rattle.cpupool.specs.Verdicts.{is_core_named, named_among}
use Rattle.std.proofs.Math.Nat.{div-lt_iff_lt-mul, div-zero, le-mul_of_pos_right, lt-div-mul-add}

-- a domain has at most as many units as vCPUs
pub few_units : (g vcpus : ℕ) → 1 ≤ g → (vcpus + g - 1) / g ≤ vcpus
few_units g vcpus some =
    let many : vcpus ≤ vcpus * g = le-mul_of_pos_right vcpus some in
    let below : vcpus + g - 1 < (vcpus + 1) * g = grind arith in
    let least : (vcpus + g - 1) / g < vcpus + 1 = (div-lt_iff_lt-mul {k = g} {x = vcpus + g - 1} {y = vcpus + 1} some).1 below in
    omega arith

-- the set of the named cores from r up to n begins with r, where that is named
pub named_step : (g : ℕ) (ranges : List (ℕ × ℕ)) (r n : ℕ) → r < n → named_among g ranges (numbers_from r (n - r)) ≡ (if is_core_named g ranges r then 2 ^ r else 0) + named_among g ranges (numbers_from (r + 1) (n - (r + 1)))
named_step g ranges r n below =
    ap (named_among g ranges) (numbers_from-first r n below)
    ∙ sum_by-cons (λ (k : ℕ). (if is_core_named g ranges k then 2 ^ k else 0)) r (numbers_from (r + 1) (n - (r + 1)))

-- the same where r is named, and where it is not
pub named_in : (g : ℕ) (ranges : List (ℕ × ℕ)) (r n : ℕ) → r < n → is_core_named g ranges r ≡ true → named_among g ranges (numbers_from r (n - r)) ≡ 2 ^ r + named_among g ranges (numbers_from (r + 1) (n - (r + 1)))
named_in g ranges r n below named = named_step g ranges r n below ∙ ap (λ b. cond b (2 ^ r) 0 + named_among g ranges (numbers_from (r + 1) (n - (r + 1)))) named

pub named_out : (g : ℕ) (ranges : List (ℕ × ℕ)) (r n : ℕ) → r < n → is_core_named g ranges r ≡ false → named_among g ranges (numbers_from r (n - r)) ≡ named_among g ranges (numbers_from (r + 1) (n - (r + 1)))
named_out g ranges r n below unnamed = named_step g ranges r n below ∙ ap (λ b. cond b (2 ^ r) 0 + named_among g ranges (numbers_from (r + 1) (n - (r + 1)))) unnamed ∙ zero-add _

-- the unit of a vCPU is one of the domain's
pub unit_of_vcpu : (g vcpus v : ℕ) → 1 ≤ (vcpus + g - 1) / g → v < vcpus → v / g < (vcpus + g - 1) / g
unit_of_vcpu zero vcpus v some below =
    let none : (vcpus + 0 - 1) / 0 ≡ 0 = div-zero (vcpus + 0 - 1) in
    absurd (omega arith)
unit_of_vcpu (suc g) vcpus v some below =
    let units : ℕ = (vcpus + suc g - 1) / suc g in
    let positive : 0 < suc g = omega arith in
    let most : vcpus + suc g - 1 < units * suc g + suc g = lt-div-mul-add {a = vcpus + suc g - 1} {b = suc g} positive in
    let inside : v < units * suc g = omega arith in
    (div-lt_iff_lt-mul {k = suc g} {x = v} {y = units} positive).1 inside

-- f of one number more
pub map_numbers_more : {X : Type 0} (f : ℕ → X) (n : ℕ) → map f (numbers_from 0 (n + 1)) ≡ map f (numbers_from 0 n) ++ f n ∷ []
map_numbers_more f n = rw add-one (numbers_from_more f 0 n ∙ ap (λ k. map f (numbers_from 0 n) ++ f k ∷ []) (zero-add n))
  where
    numbers_from_more : {X : Type 0} (f : ℕ → X) (first n : ℕ) → map f (numbers_from first (suc n)) ≡ map f (numbers_from first n) ++ f (first + n) ∷ []
    numbers_from_more f first zero = ap (λ k. f k ∷ []) (sym (add-zero first))
    numbers_from_more f first (suc n) =
        let next : suc first + n ≡ first + suc n = omega arith in
        ap (λ rest. f first ∷ rest) (numbers_from_more f (suc first) n ∙ ap (λ k. map f (numbers_from (suc first) n) ++ f k ∷ []) next)

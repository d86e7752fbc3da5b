-- Which units have a place, and that no two have the same.
use Rattle.std.proofs.Common.{◌≡◌, ◌<◌, ℕ, true, ◌∙◌, ap, arith}
use Rattle.std.specs.Prelude.{nat_lt}
use Rattle.std.proofs.lemmas.Bool.Decides.{nat_tests}
use Rattle.std.proofs.lemmas.Bool.{and_from}
use Rattle.sched_base.specs.declared.UnitId.{UnitId}
use Rattle.unit_places.specs.Places.{number_of, has_unit_place, unit_index}
use Rattle.sched_base.proofs.Bools.{and_left, and_right}

-- a unit of the first 64 domains and one of the first 32 of its domain has a place
pub placed : (u : UnitId) → u.dom.0 < 64 → u.n < 32 → has_unit_place u ≡ true
placed u d n = and_from (nat_lt u.dom.0 64) (nat_lt u.n 32) (grind (arith, nat_tests, d)) (grind (arith, nat_tests, n))

-- and no other
pub low_domain : (u : UnitId) → has_unit_place u ≡ true → u.dom.0 < 64
low_domain u has = (let t = and_left (nat_lt u.dom.0 64) (nat_lt u.n 32) has in grind (arith, nat_tests, t))

pub low_unit : (u : UnitId) → has_unit_place u ≡ true → u.n < 32
low_unit u has = (let t = and_right (nat_lt u.dom.0 64) (nat_lt u.n 32) has in grind (arith, nat_tests, t))

-- its number is below 2048
pub low_index : (u : UnitId) → has_unit_place u ≡ true → unit_index u < 2048
low_index u has = (let d = low_domain u has in let n = low_unit u has in omega (arith, d, n))

-- two units with one place are the same
pub same_index : (u w : UnitId) → has_unit_place u ≡ true → has_unit_place w ≡ true → unit_index u ≡ unit_index w → number_of u ≡ number_of w
same_index u w has_u has_w same = (let n = low_unit u has_u in let m = low_unit w has_w in omega (arith, same, n, m))

pub same_place : (u w : UnitId) → has_unit_place u ≡ true → has_unit_place w ≡ true → number_of u ≡ number_of w → unit_index u ≡ unit_index w
same_place u w has_u has_w same = (let n = low_unit u has_u in let m = low_unit w has_w in omega (arith, same, n, m))

-- a unit with the number of one that has a place has it too
pub same_number : (u w : UnitId) → u.n < 256 → has_unit_place w ≡ true → number_of w ≡ number_of u → u ≡ w
same_number u w low has same =
    let m = low_unit w has in
    let d : u.dom.0 ≡ w.dom.0 = omega (arith, same, low, m) in
    let n : u.n ≡ w.n = omega (arith, same, low, m) in
    ap (λ (i : ℕ). record { dom = record { 0 = i }; n = u.n }) d ∙ ap (λ (i : ℕ). record { dom = w.dom; n = i }) n

-- What the law of ranges says of the numbers that Credit2 reckons with.
use Rattle.std.proofs.Common.{◌≡◌, ◌<◌, ◌≤◌, ◌+◌, ◌-◌, ◌*◌, ◌/◌, ◌%◌, ℕ, zero, suc, List, [], ◌∷◌, refl, arith, subst, sym, length, Bool, true, false, w64}
use Rattle.std.specs.Prelude.{Option, Some, None, slice_index_or, map, fold, max, sum_by, ◌^◌, ◌==◌, ℤ, pos, negsuc, neg_ℤ, ◌+ℤ◌, ◌-ℤ◌, ◌≤ℤ◌, FitsSigned, if◌then◌else◌}
use Rattle.std.specs.List.{All}
use Rattle.std.proofs.lemmas.Int.{ints}
use Rattle.std.proofs.lemmas.List.{length-map}
use Rattle.std.proofs.lemmas.List.Elements.{All-map}
use Rattle.std.proofs.lemmas.List.Sums.{sum_by-cons}
use Rattle.std.proofs.Math.Nat.{mod-lt, div-le_self, max-le}
use Rattle.sched_base.specs.Credit2Numbers.{positive_part, undivided_charge, burned_credit, burned_residual}
use Rattle.sched_model.specs.declared.state.Credit2Unit.{Credit2Unit}
use Rattle.sched_model.specs.declared.state.Credit2Domain.{Credit2Domain}
use Rattle.sched_model.specs.declared.state.Credit2Records.{Credit2Records}
use Rattle.sched_model.specs.Places.{at_place, numbered_items}
use Rattle.sched_model.specs.Credit2.{burned_unit, burned_domain, running_budget}
use Rattle.sched_model.specs.CheckedMachine.{IsWithin, most_span}
use Rattle.sched_laws.specs.EachPlace.{EachPlace}
use Rattle.sched_laws.specs.RecordRanges.{Credit2InRange, Credit2UnitInRange}
use Rattle.scheduler_records.specs.Fits.{Credit2Fits}
use Rattle.scheduler_records.specs.Bounds.{UnitFits, ParamsFit, DomainFits, PoolFits, PoolParamsFit, amount_held}

times-small : (e k : ℕ) → k ≤ 65535 → e * k ≤ 65535 * e
times-small e k low = (let split : 65535 ≡ k + (65535 - k) = omega (arith, low) in subst (λ (z : ℕ). e * k ≤ z * e) (sym split) (let r : (k + (65535 - k)) * e ≡ e * k + (65535 - k) * e = grind arith in omega (arith, r)))

-- what a unit of a domain is charged for a span
charge-small : (residual weight most elapsed : ℕ) → residual < 65536 → most ≤ 65535 → elapsed ≤ most_span → undivided_charge residual most elapsed / weight ≤ 655350000000065535
charge-small residual weight most elapsed low small short =
    let d = div-le_self (undivided_charge residual most elapsed) weight in
    let e = times-small elapsed most small in
    omega (arith, d, e, low, short)

-- a unit in range fits
pub unit_in_range : (t : ℕ) (x : Credit2Unit) → t ≤ most_span → Credit2UnitInRange t x → UnitFits t x
unit_in_range t x early range = record {
  residual = range.residual;
  burned = range.burned;
  credit_most = range.most;
  credit_least = (let l = range.least in omega (arith, ints, l, early));
  held_most = range.held_most;
  held_least = (let l = range.held_least in omega (arith, ints, l, early));
}

-- so does one that was charged
pub unit_burned : (most t : ℕ) (d : Credit2Domain) (x : Credit2Unit) → t ≤ most_span → ParamsFit most d → Credit2UnitInRange t x → UnitFits t (burned_unit most t d x)
unit_burned most t d x early params range = by_burned x.burned refl
  where
    held_least : (free : Bool) (e : ℕ) → e ≤ most_span → neg_ℤ (pos 20000000000000) ≤ℤ (if free then x.held else (x.held -ℤ pos e))
    held_least true e short = (let l = range.held_least in omega (arith, ints, l, early))
    held_least false e short = (let l = range.held_least in omega (arith, ints, l, early, short))

    held_most : (free : Bool) (e : ℕ) → (if free then x.held else (x.held -ℤ pos e)) ≤ℤ pos 640000000
    held_most true e = range.held_most
    held_most false e = (let l = range.held_most in omega (arith, ints, l))

    by_burned : (o : Option ℕ) → x.burned ≡ o → UnitFits t (elim o as (λ _. Credit2Unit) [
      | None ↦ x
      | Some from ↦ record x {
        credit = burned_credit x.credit x.residual d.weight most (t - from);
        residual = burned_residual x.residual d.weight most (t - from);
        held = (if d.cap == 0 then x.held else (x.held -ℤ pos (t - from)));
        burned = Some t;
      }
    ])
    by_burned None is = unit_in_range t x early range
    by_burned (Some from) is =
        let short : t - from ≤ most_span = omega (arith, early) in
        let c = charge-small x.residual d.weight most (t - from) range.residual params.small short in
        let most_before = range.most in
        let least_before = range.least in
        let weight = params.some_weight in
        let no_more = params.no_more in
        let small = params.small in
        let part : undivided_charge x.residual most (t - from) % d.weight < d.weight = mod-lt (undivided_charge x.residual most (t - from)) (omega (arith, weight)) in
        record {
          residual = omega (arith, part, no_more, small);
          burned = omega arith;
          credit_most = omega (arith, ints, most_before);
          credit_least = omega (arith, ints, least_before, c, early);
          held_most = held_most (d.cap == 0) (t - from);
          held_least = held_least (d.cap == 0) (t - from) short;
        }

-- no unit that was charged holds more than before
pub held_burned : (most t : ℕ) (d : Credit2Domain) (x : Credit2Unit) → UnitFits t x → amount_held (burned_unit most t d x) ≤ 640000000
held_burned most t d x fits = by_burned x.burned refl
  where
    small : (z : ℤ) → z ≤ℤ pos 640000000 → positive_part z ≤ 640000000
    small (pos n) low = omega (arith, ints, low)
    small (negsuc n) low = omega arith

    by_cap : (free : Bool) (e : ℕ) → (if free then x.held else (x.held -ℤ pos e)) ≤ℤ pos 640000000
    by_cap true e = fits.held_most
    by_cap false e = (let l = fits.held_most in omega (arith, ints, l))

    by_burned : (o : Option ℕ) → x.burned ≡ o → amount_held (elim o as (λ _. Credit2Unit) [
      | None ↦ x
      | Some from ↦ record x {
        credit = burned_credit x.credit x.residual d.weight most (t - from);
        residual = burned_residual x.residual d.weight most (t - from);
        held = (if d.cap == 0 then x.held else (x.held -ℤ pos (t - from)));
        burned = Some t;
      }
    ]) ≤ 640000000
    by_burned None is = rw is (omega arith)
    by_burned (Some from) is = small _ (by_cap (d.cap == 0) (t - from))

-- the sum of what the units hold
sum_small : (xs : List Credit2Unit) → All (λ (x : Credit2Unit). amount_held x ≤ 640000000) xs → sum_by amount_held xs ≤ 640000000 * length xs
sum_small [] all = omega arith
sum_small (x ∷ xs) all =
    let e = sum_by-cons amount_held x xs in
    let a : amount_held x ≤ 640000000 = all 0 x (omega arith) in
    let r = sum_small xs (λ k d h. all (suc k) d (omega (arith, h))) in
    omega (arith, e, a, r)

-- what the running units of a domain hold once they are charged
pub running_small : (most t : ℕ) (d : Credit2Domain) → DomainFits most t d → length d.units ≤ 32 → running_budget (burned_domain most t d) < 2 ^ 63
running_small most t d fits few =
    let s = sum_small (map (burned_unit most t d) d.units) (All-map (λ (x : Credit2Unit). amount_held x ≤ 640000000) (burned_unit most t d) d.units (λ k u h. held_burned most t d (slice_index_or d.units k u) (fits.units k u h))) in
    let l = length-map d.units (burned_unit most t d) in
    omega (arith, s, l, few)

-- the budget of a domain and what a unit of it holds after a charge fit a signed 64-bit number
pub budget_fits : (most t : ℕ) (d : Credit2Domain) (u : Credit2Unit) → t ≤ most_span → Credit2InRange t d → UnitFits t u → FitsSigned w64 (d.budget +ℤ u.held)
budget_fits most t d u early range fits =
    let a = range.budget_most in
    let b = range.budget_least in
    let e = fits.held_most in
    let f = fits.held_least in
    omega (arith, ints, a, b, e, f, early)

-- each weight is at most the greatest, and that is one of them or 0
weights-grow : (n acc : ℕ) (domains : List (Option Credit2Domain)) → acc ≤ fold max acc (map (λ (e : ℕ × Credit2Domain). e.1.weight) (numbered_items n domains))
weights-grow n acc [] = omega arith
weights-grow n acc (None ∷ domains) = weights-grow (suc n) acc domains
weights-grow n acc (Some d ∷ domains) = (let r = weights-grow (suc n) (max acc d.weight) domains in grind (arith, r))

weights-most : (n acc i : ℕ) (domains : List (Option Credit2Domain)) (d : Credit2Domain) → at_place domains i ≡ Some d → d.weight ≤ fold max acc (map (λ (e : ℕ × Credit2Domain). e.1.weight) (numbered_items n domains))
weights-most n acc i [] d at = absurd cc
weights-most n acc zero (None ∷ domains) d at = absurd cc
weights-most n acc zero (Some e ∷ domains) d at =
    let same : e ≡ d = cc in
    let r = weights-grow (suc n) (max acc e.weight) domains in
    subst (λ (z : Credit2Domain). z.weight ≤ fold max (max acc e.weight) (map (λ (e : ℕ × Credit2Domain). e.1.weight) (numbered_items (suc n) domains))) same (grind (arith, r))
weights-most n acc (suc i) (None ∷ domains) d at = weights-most (suc n) acc i domains d at
weights-most n acc (suc i) (Some e ∷ domains) d at = weights-most (suc n) (max acc e.weight) i domains d at

weights-small : (n acc : ℕ) (domains : List (Option Credit2Domain)) → acc ≤ 65535 → EachPlace (λ (d : Credit2Domain). d.weight ≤ 65535) domains → fold max acc (map (λ (e : ℕ × Credit2Domain). e.1.weight) (numbered_items n domains)) ≤ 65535
weights-small n acc [] low each = low
weights-small n acc (None ∷ domains) low each = weights-small (suc n) acc domains low (λ i x at. each (suc i) x at)
weights-small n acc (Some d ∷ domains) low each = weights-small (suc n) (max acc d.weight) domains (max-le low (each 0 d refl)) (λ i x at. each (suc i) x at)

-- the parameters of domains, and the units of one
pub record ParamsBounded (d : Credit2Domain) : Type 0 where
  pub weight : IsWithin 1 65535 d.weight
  pub cap : d.cap ≤ 6400

abbrev pub UnitsFit : ℕ → Credit2Domain → Type 0
UnitsFit t d = All (UnitFits t) d.units

-- weights are at most the greatest of the pool
pub pool_params : (records : Credit2Records) → EachPlace ParamsBounded records.domains → PoolParamsFit records
pool_params records bounded i d at =
    let here = bounded i d at in
    record {
      some_weight = here.weight.least;
      no_more = weights-most 0 0 i records.domains d at;
      small = weights-small 0 0 records.domains (omega arith) (λ j e there. (bounded j e there).weight.most);
      cap = here.cap;
    }

pub pool_fits : (t : ℕ) (records : Credit2Records) → EachPlace ParamsBounded records.domains → EachPlace (UnitsFit t) records.domains → PoolFits t records
pool_fits t records bounded units i d at = record { params = pool_params records bounded i d at; units = units i d at }

-- a pool in range fits
pub params_in_range : (t : ℕ) (records : Credit2Records) → Credit2Fits t records → EachPlace ParamsBounded records.domains
params_in_range t records fits i d at = (let range = fits.domains i d at in record { weight = range.weight; cap = range.cap })

pub units_in_range : (t : ℕ) (records : Credit2Records) → t ≤ most_span → Credit2Fits t records → EachPlace (UnitsFit t) records.domains
units_in_range t records early fits i d at k u inside = unit_in_range t (slice_index_or d.units k u) early ((fits.domains i d at).units k u inside)

pub pool_in_range : (t : ℕ) (records : Credit2Records) → t ≤ most_span → Credit2Fits t records → PoolFits t records
pool_in_range t records early fits = pool_fits t records (params_in_range t records fits) (units_in_range t records early fits)

-- the same of a pool that fits
pub params_of_fits : (t : ℕ) (records : Credit2Records) → PoolFits t records → EachPlace ParamsBounded records.domains
params_of_fits t records fits i d at =
    let here = (fits i d at).params in
    let no_more = here.no_more in
    let small = here.small in
    record { weight = record { least = here.some_weight; most = omega (arith, no_more, small) }; cap = here.cap }

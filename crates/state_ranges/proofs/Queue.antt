-- A pool's queue has no more units than the machine.
use Rattle.std.proofs.Common.{◌≡◌, ◌<◌, ◌≤◌, ◌+◌, ◌-◌, ◌*◌, ◌/◌, ℕ, zero, suc, List, [], ◌∷◌, arith, subst, sym, ap, length}
use Rattle.std.specs.Prelude.{Some, slice_get, map}
use Rattle.std.proofs.Math.Decide.{ℕ_discrete}
use Rattle.std.proofs.lemmas.Nat.{le-div}
use Rattle.sched_base.specs.Numbers.{domain as domain_number}
use Rattle.sched_base.specs.declared.UnitId.{UnitId}
use Rattle.sched_model.specs.declared.machine.Machine.{Machine}
use Rattle.sched_model.specs.declared.config.DomConfig.{DomConfig}
use Rattle.sched_model.specs.Places.{numbers_from}
use Rattle.sched_model.specs.Actions.{units_from}
use Rattle.sched_laws.proofs.Counts.{same_unit_refl}
use Rattle.sched_laws.specs.Counts.{times}
use Rattle.sched_laws.proofs.Fewer.{times-append}
use Rattle.state_ranges.specs.Ranges.{IsUnitOf}

numbers_have : (d k a c : ℕ) → a ≤ k → k < a + c → 1 ≤ times (record { dom = domain_number d; n = k }) (map (λ n. record { dom = domain_number d; n = n }) (numbers_from a c))
numbers_have d k a zero low high = absurd (omega (arith, low, high))
numbers_have d k a (suc c) low high =
    elim (ℕ_discrete k a) [
      | yes e ↦ subst (λ j. 1 ≤ times (record { dom = domain_number d; n = k }) (map (λ n. record { dom = domain_number d; n = n }) (numbers_from j (suc c)))) e
          (let s = same_unit_refl (record { dom = domain_number d; n = k }) in rw s (omega arith))
      | no other ↦ (let r = numbers_have d k (suc a) c (omega (arith, low, other)) (omega (arith, high)) in omega (arith, r))
    ]

-- a unit of a domain of the file is one of the machine's units
units_have : (g d k : ℕ) (domains : List DomConfig) (config : DomConfig) (u : UnitId) → slice_get domains k ≡ Some config → u.dom.0 ≡ d + k → u.n < (length config.guests + g - 1) / g → 1 ≤ times u (units_from g d domains)
units_have g d k [] config u at dom inside = absurd (cc)
units_have g d zero (x ∷ domains) config u at dom inside =
    let e : x ≡ config = cc in
    let n : u.n < (length x.guests + g - 1) / g = subst (λ (c : DomConfig). u.n < (length c.guests + g - 1) / g) (sym e) inside in
    let here : 1 ≤ times (record { dom = domain_number d; n = u.n }) (map (λ n. record { dom = domain_number d; n = n }) (numbers_from 0 ((length x.guests + g - 1) / g))) = numbers_have d u.n 0 ((length x.guests + g - 1) / g) (omega arith) (omega (arith, n)) in
    let same : ◌≡◌ {A = UnitId} (record { dom = domain_number d; n = u.n }) u = ap (λ (j : ℕ). record { dom = domain_number j; n = u.n }) (omega (arith, dom)) in
    let there = subst (λ (w : UnitId). 1 ≤ times w (map (λ n. record { dom = domain_number d; n = n }) (numbers_from 0 ((length x.guests + g - 1) / g)))) same here in
    let a = times-append u (map (λ n. record { dom = domain_number d; n = n }) (numbers_from 0 ((length x.guests + g - 1) / g))) (units_from g (suc d) domains) in
    omega (arith, a, there)
units_have g d (suc k) (x ∷ domains) config u at dom inside =
    let r = units_have g (suc d) k domains config u at (omega (arith, dom)) inside in
    let a = times-append u (map (λ n. record { dom = domain_number d; n = n }) (numbers_from 0 ((length x.guests + g - 1) / g))) (units_from g (suc d) domains) in
    omega (arith, a, r)

pub unit_is_there : (m : Machine) → 0 < m.config.granularity → (u : UnitId) → IsUnitOf m u → 1 ≤ times u (units_from m.config.granularity 0 m.config.domains)
unit_is_there m some u is =
    let g : ℕ = m.config.granularity in
    units_have g 0 u.dom.0 m.config.domains is.config u is.at (omega arith)
    (let within = is.inside in let spread : suc u.n * g ≡ u.n * g + g = grind arith in le-div (suc u.n) (length is.config.guests + g - 1) g some (omega (arith, within, spread)))

-- The units of the domains that have joined, by their sets of cores and by their records.
use Rattle.std.proofs.Common.{◌≡◌, ◌<◌, ℕ, zero, suc, true, false, List, [], ◌∷◌, length, refl, ap, ◌∙◌, arith, inl, inr}
use Rattle.std.specs.Prelude.{Option, Some, None, option_map, slice_get}
use Rattle.sched_base.specs.Numbers.{domain}
use Rattle.sched_base.specs.declared.Cores.{Cores}
use Rattle.sched_base.specs.declared.UnitId.{UnitId}
use Rattle.unit_places.specs.Places.{has_unit_place}
use Rattle.unit_places.proofs.Placed.{placed}
use Rattle.sched_model.specs.declared.state.Credit2Unit.{Credit2Unit}
use Rattle.sched_model.specs.declared.state.Credit2Domain.{Credit2Domain}
use Rattle.sched_model.specs.declared.state.Credit2Records.{Credit2Records}
use Rattle.sched_model.specs.Places.{at_place, has_listed_unit}
use Rattle.sched_base.proofs.Bools.{clash}
use Rattle.sched_laws.proofs.EachPlace.{place_below}
use Rattle.state_ranges.proofs.Decided.{unit_rec}
use Rattle.state_ranges.specs.Budgets.{AllRunOnly}
use Rattle.credit2_core.specs.Places.{set_counts, unit_counts}
use Rattle.sched_ops.specs.Affinity.{joined_unit_count, is_member_among}
use Rattle.credit2_core.specs.Credit2State.{InRange}
use Rattle.std.proofs.lemmas.Bool.{ltb-true}

-- how many units there are at a place, by either table
pub counts_at : (affinity : List (Option (List Cores))) (domains : List (Option Credit2Domain)) (i : ℕ) → set_counts affinity ≡ unit_counts domains
    → option_map length (at_place affinity i) ≡ option_map (λ (d : Credit2Domain). length d.units) (at_place domains i)
counts_at [] [] i same = refl
counts_at [] (d ∷ domains) i same = absurd cc
counts_at (a ∷ affinity) [] i same = absurd cc
counts_at (a ∷ affinity) (d ∷ domains) zero same = cc
counts_at (a ∷ affinity) (d ∷ domains) (suc i) same = counts_at affinity domains i cc

-- a domain of records has as many sets of cores as units
pub count_there : (affinity : List (Option (List Cores))) (domains : List (Option Credit2Domain)) (i : ℕ) (x : Credit2Domain) → set_counts affinity ≡ unit_counts domains → at_place domains i ≡ Some x → joined_unit_count affinity i ≡ length x.units
count_there affinity domains i x same at =
    let e : option_map length (at_place affinity i) ≡ Some (length x.units) = counts_at affinity domains i same ∙ ap (option_map (λ (d : Credit2Domain). length d.units)) at in
    by_sets (at_place affinity i) e
  where
    by_sets : (o : Option (List Cores)) → option_map length o ≡ Some (length x.units) → elim o as (λ _. ℕ) [ None ↦ 0 | Some sets ↦ length sets ] ≡ length x.units
    by_sets None e = absurd cc
    by_sets (Some sets) e = cc

-- a unit that has joined has a record
pub joined_record : (affinity : List (Option (List Cores))) (domains : List (Option Credit2Domain)) (u : UnitId) → set_counts affinity ≡ unit_counts domains → is_member_among affinity u ≡ true
    → (x : Credit2Domain) × (at_place domains u.dom.0 ≡ Some x) × (u.n < length x.units)
joined_record affinity domains u same joined = by_place (at_place domains u.dom.0) refl
  where
    inside : u.n < joined_unit_count affinity u.dom.0
    inside = ltb-true u.n (joined_unit_count affinity u.dom.0) joined

    none_there : (o : Option (List Cores)) → option_map length o ≡ None → elim o as (λ _. ℕ) [ None ↦ 0 | Some sets ↦ length sets ] ≡ 0
    none_there None e = refl
    none_there (Some sets) e = absurd cc

    by_place : (o : Option Credit2Domain) → at_place domains u.dom.0 ≡ o → (x : Credit2Domain) × (at_place domains u.dom.0 ≡ Some x) × (u.n < length x.units)
    by_place None is =
        let e : option_map length (at_place affinity u.dom.0) ≡ None = counts_at affinity domains u.dom.0 same ∙ ap (option_map (λ (d : Credit2Domain). length d.units)) is in
        let z = none_there (at_place affinity u.dom.0) e in
        absurd (omega (arith, inside, z))
    by_place (Some x) is = (x, is, (let e = count_there affinity domains u.dom.0 x same is in omega (arith, inside, e)))

pub joined_small : (t : ℕ) (records : Credit2Records) (affinity : List (Option (List Cores))) (u : UnitId) → InRange t records → set_counts affinity ≡ unit_counts records.domains → is_member_among affinity u ≡ true → u.n < 32
joined_small t records affinity u range same joined =
    let r = joined_record affinity records.domains u same joined in
    let few = (range.budgets u.dom.0 r.0 r.1).count in
    let inside = r.2 in
    omega (arith, few, inside)

-- a unit that has joined has a place in tables
pub joined_place : (t : ℕ) (records : Credit2Records) (affinity : List (Option (List Cores))) (u : UnitId) → InRange t records → set_counts affinity ≡ unit_counts records.domains → is_member_among affinity u ≡ true → has_unit_place u ≡ true
joined_place t records affinity u range same joined =
    let r = joined_record affinity records.domains u same joined in
    let below = place_below records.domains u.dom.0 r.0 r.1 in
    let few = range.few in
    placed u (omega (arith, below, few)) (joined_small t records affinity u range same joined)

-- the record of a unit, and its domain
pub record_of : (records : Credit2Records) (u : UnitId) (y : Credit2Unit) → unit_rec records u ≡ Some y → (x : Credit2Domain) × (at_place records.domains u.dom.0 ≡ Some x) × (slice_get x.units u.n ≡ Some y)
record_of records u y is = by_place (at_place records.domains u.dom.0) refl is
  where
    by_place : (o : Option Credit2Domain) → at_place records.domains u.dom.0 ≡ o → elim o as (λ _. Option Credit2Unit) [ None ↦ None | Some d ↦ slice_get d.units u.n ] ≡ Some y → (x : Credit2Domain) × (at_place records.domains u.dom.0 ≡ Some x) × (slice_get x.units u.n ≡ Some y)
    by_place None at e = absurd cc
    by_place (Some x) at e = (x, at, e)

-- the units that wait, as a rule which units may run
abbrev pub IsElsewhere : List UnitId → ℕ → ℕ → Type 0
IsElsewhere units d n = has_listed_unit units (record { dom = domain d; n = n }) ≡ false

-- a unit that waits does not run
pub waits_off : (units : List UnitId) (records : Credit2Records) (u : UnitId) → AllRunOnly (IsElsewhere units) records → has_listed_unit units u ≡ true → (y : Credit2Unit) → unit_rec records u ≡ Some y → y.burned ≡ None
waits_off units records u only waits y is = (
    let r = record_of records u y is in
    elim (only u.dom.0 r.0 r.1 u.n y r.2) [ inl none ↦ none | inr other ↦ absurd (clash (has_listed_unit units u) waits other) ])

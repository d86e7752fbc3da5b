-- What the next command is judged by, as the places of the pools tell it.
use Rattle.std.proofs.Common.{◌≡◌, ◌∙◌, ◌<◌, ℕ, zero, suc, List, [], ◌∷◌, refl, sym, ap, subst, arith}
use Rattle.std.specs.Prelude.{Option, Some, None, map}
use Rattle.std.specs.Option.{ForSome}
use Rattle.sched_base.specs.declared.DomId.{DomId}
use Rattle.sched_base.specs.declared.PoolId.{PoolId}
use Rattle.sched_model.specs.declared.facts.Stored.{Stored}
use Rattle.sched_model.specs.declared.facts.Subject.{Subject}
use Rattle.sched_model.specs.declared.state.Domain.{Domain}
use Rattle.sched_model.specs.declared.state.Pool.{Pool}
use Rattle.sched_model.specs.declared.state.Records.{Records}
use Rattle.sched_model.specs.declared.state.State.{State}
use Rattle.sched_model.specs.Places.{at_place, numbers_from}
use Rattle.sched_model.specs.Policy.{pool_rate_limit}
use Rattle.sched_model.specs.Pool.{domain_unit_count}
use Rattle.sched_laws.specs.EachPlace.{EachPlace}
use Rattle.sched_laws.proofs.EachPlace.{place_below}
use Rattle.state_ranges.specs.Records.{HasRecords}
use Rattle.state_ranges.proofs.RecordsLaw.{has_records}
use Rattle.unit_state.specs.Seen as guests
use Rattle.sched_base.specs.Units.{unit_id}
use Rattle.pool_core.specs.Params as params
use Rattle.pool_core.specs.Seen.{Seen}
use Rattle.cpupool.specs.Facts.{subject_rate, stored_from, stored_in, subject_stored}
use Rattle.sched_model.specs.Policy.{unit_stored}
use Rattle.cpupool.specs.Tool.{tool_of}
use Rattle.machine_parts.specs.Told.{Told}
use Rattle.machine_parts.specs.Places.{AllStand, GoesOn, SlotSuits, state_of}
use Rattle.machine_parts.proofs.Going.{state_of-is}
use Rattle.machine_parts.proofs.Standing.{pool_at}
use Rattle.machine_parts.specs.Parts.{AreParts}
use Rattle.machine_parts.proofs.AtPlaces.{pool-anywhere}

-- where each of the units has a value, these are all of them
stored-all : (records : Records) (d first count : ℕ) (values : List Stored) → map Some values ≡ params.stored_units records d (numbers_from first count) → values ≡ stored_from records d first count
stored-all records d first zero [] is = refl
stored-all records d first zero (v ∷ values) is = absurd (cc)
stored-all records d first (suc count) [] is = absurd (cc)
stored-all records d first (suc count) (v ∷ values) is =
    let head : Some v ≡ unit_stored records (unit_id d first) = cc in
    let rest : map Some values ≡ params.stored_units records d (numbers_from (suc first) count) = cc in
    let here : unit_stored records (unit_id d first) ≡ Some v = sym head in
    ap (λ xs. v ∷ xs) (stored-all records d (suc first) count values rest)
    ∙ sym (ap (λ (o : Option Stored). elim o as (λ _. List Stored) [ None ↦ [] | Some x ↦ x ∷ stored_from records d (suc first) count ]) here)

-- those of a domain that may be there
stored-here : (g : ℕ) (records : Records) (d : ℕ) (o : Option Domain) (values : List Stored) → map Some values ≡ params.stored_units records d (numbers_from 0 (guests.units_at g o))
    → values ≡ (elim o as (λ _. List Stored) [ None ↦ [] | Some domain ↦ stored_from records d 0 (domain_unit_count g domain) ])
stored-here g records d None [] is = refl
stored-here g records d None (v ∷ values) is = absurd (cc)
stored-here g records d (Some domain) values is = stored-all records d 0 (domain_unit_count g domain) values is

no-values : (values : List Stored) → map Some values ≡ [] → values ≡ []
no-values [] is = refl
no-values (v ∷ values) is = absurd (cc)

-- those of the domain that the subject names, if it names one
abbrev units_in : ℕ → Pool → Option DomId → List Stored
units_in g pool d = elim d [ None ↦ [] | Some x ↦ stored_in g pool x.0 ]

stored-in : (g : ℕ) (pool : Pool) (d : Option DomId) (values : List Stored) → map Some values ≡ params.stored_in g pool.domains pool.scheduler.records d → values ≡ units_in g pool d
stored-in g pool None values is = no-values values is
stored-in g pool (Some d) values is = stored-here g pool.scheduler.records d.0 (at_place pool.domains d.0) values is

-- what is told of a subject by what stands at the place of its pool
abbrev rate_by : Option Pool → ℕ
rate_by o = elim o [ None ↦ 0 | Some pool ↦ pool_rate_limit pool.scheduler.records ]

abbrev units_by : ℕ → Option DomId → Option Pool → List Stored
units_by g d o = elim o [ None ↦ [] | Some pool ↦ units_in g pool d ]

rate-is : (s : State) (i : PoolId) (d : Option DomId) → subject_rate s (record { pool = Some i; dom = d }) ≡ rate_by (at_place s.pools i.0)
rate-is s i d = refl

units-are : (g : ℕ) (s : State) (i : PoolId) (d : Option DomId) → subject_stored g s (record { pool = Some i; dom = d }) ≡ units_by g d (at_place s.pools i.0)
units-are g s i None = elim (at_place s.pools i.0) as (λ o. [] ≡ units_by g None o) [ None ↦ refl | Some pool ↦ refl ]
units-are g s i (Some d) = refl

-- a subject with a pool, by its place
module _ (w : Told) (slots : List (Option Seen)) (goes : GoesOn w) (all : AllStand w slots) (subject : Subject) (i : PoolId) (at : subject.pool ≡ Some i) where
  abbrev g : ℕ
  g = w.input.config.granularity

  abbrev s : State
  s = state_of w

  parts : AreParts w slots (tool_of w.input s)
  parts = record { goes = goes; stand = all; known = refl }

  there : at_place s.pools i.0 ≡ pool_at (at_place slots i.0)
  there = pool-anywhere w slots (tool_of w.input s) parts i.0

  rate-there : subject_rate s subject ≡ rate_by (pool_at (at_place slots i.0))
  rate-there = ap (λ (o : Option PoolId). subject_rate s (record { pool = o; dom = subject.dom })) at ∙ rate-is s i subject.dom ∙ ap rate_by there

  units-there : subject_stored g s subject ≡ units_by g subject.dom (pool_at (at_place slots i.0))
  units-there = ap (λ (o : Option PoolId). subject_stored g s (record { pool = o; dom = subject.dom })) at ∙ units-are g s i subject.dom ∙ ap (units_by g subject.dom) there

  pub rate-told : (rate : ℕ) → ForSome (at_place slots i.0) (λ seen. rate ≡ pool_rate_limit seen.pool.scheduler.records) → (at_place slots i.0 ≡ None → rate ≡ 0) → rate ≡ subject_rate s subject
  rate-told rate some none = by_slot (at_place slots i.0) refl ∙ sym rate-there
    where
      by_slot : (o : Option Seen) → at_place slots i.0 ≡ o → rate ≡ rate_by (pool_at (at_place slots i.0))
      by_slot None is = none is ∙ sym (ap (λ (x : Option Seen). rate_by (pool_at x)) is)
      by_slot (Some seen) is = some seen is ∙ sym (ap (λ (x : Option Seen). rate_by (pool_at x)) is)

  pub units-told : (values : List Stored) → ForSome (at_place slots i.0) (λ seen. map Some values ≡ params.stored_in seen.granularity seen.pool.domains seen.pool.scheduler.records subject.dom)
      → (at_place slots i.0 ≡ None → values ≡ []) → values ≡ subject_stored g s subject
  units-told values some none = by_slot (at_place slots i.0) refl ∙ sym units-there
    where
      by_slot : (o : Option Seen) → at_place slots i.0 ≡ o → values ≡ units_by g subject.dom (pool_at (at_place slots i.0))
      by_slot None is = none is ∙ sym (ap (λ (x : Option Seen). units_by g subject.dom (pool_at x)) is)
      by_slot (Some seen) is =
          let low : i.0 < 16 = (let below = place_below slots i.0 seen is in let count = all.count in omega (arith, below, count)) in
          let suits : SlotSuits w.input s.now seen = (all.each i.0 low).suits seen is in
          let given : map Some values ≡ params.stored_in g seen.pool.domains seen.pool.scheduler.records subject.dom =
          some seen is ∙ ap (λ (k : ℕ). params.stored_in k seen.pool.domains seen.pool.scheduler.records subject.dom) suits.granularity in
          stored-in g seen.pool subject.dom values given ∙ sym (ap (λ (x : Option Seen). units_by g subject.dom (pool_at x)) is)

-- the schedulers keep records of all units
pub recorded : (w : Told) → GoesOn w → EachPlace (HasRecords w.input.config.granularity) (state_of w).pools
recorded w goes = subst (λ (s : State). EachPlace (HasRecords w.input.config.granularity) s.pools) (sym (state_of-is w)) (has_records w.input goes.checked w.history goes.run)

-- The facts are those of the domain and the pool that the command names, and what is read from them is what the definitions read from the records.
use Rattle.sched_base.specs.Numbers.{span, domain as domain_number, pool as pool_number}
use Rattle.std.proofs.Common.{◌≡◌, ◌+◌, ◌/◌, ◌<◌, ◌≤◌, ℕ, zero, suc, Bool, true, false, List, [], ◌∷◌, Option, Some, None, length, map, take, drop, refl, sym, ◌∙◌, ap, subst, add-zero, arith}
use Rattle.std.specs.Prelude.{option_map, unwrap_or, slice_get, cond}
use Rattle.sched_model.specs.declared.command.Command.{Command}
use Rattle.sched_model.specs.declared.command.Which.{Which}
use Rattle.sched_model.specs.declared.event.Refusal.{Refusal}
use Rattle.sched_model.specs.declared.event.Refusal.TheVariants as refusal
use Rattle.sched_model.specs.declared.event.Param.TheVariants as param
use Rattle.sched_model.specs.declared.event.Reply.TheVariants as reply
use Rattle.sched_model.specs.declared.facts.Stored.{Stored}
use Rattle.sched_model.specs.declared.facts.Stored.TheVariants as stored
use Rattle.sched_model.specs.declared.facts.Subject.{Subject}
use Rattle.sched_model.specs.declared.machine.Machine.{Machine}
use Rattle.sched_model.specs.declared.state.Credit2Domain.{Credit2Domain}
use Rattle.sched_model.specs.declared.state.Credit2Records.{Credit2Records}
use Rattle.sched_model.specs.declared.state.Domain.{Domain}
use Rattle.sched_model.specs.declared.state.Pool.{Pool}
use Rattle.sched_model.specs.declared.state.Records.{Records}
use Rattle.sched_model.specs.declared.state.Records.TheVariants.{Credit2Pool, RtdsPool, ArincPool, NullPool}
use Rattle.sched_model.specs.declared.state.RtdsUnit.{RtdsUnit}
use Rattle.sched_model.specs.declared.state.State.{State}
use Rattle.sched_model.specs.Actions.{home_pool_of_domain}
use Rattle.sched_model.specs.Places.{at_place}
use Rattle.sched_model.specs.Policy.{pool_rate_limit, unit_rtds_record}
use Rattle.sched_model.specs.Pool.{domain_unit_count}
use Rattle.sched_model.specs.Commands.{meant_pool, meant_domain, in_range, rtds_fault, rtds_units}
use Rattle.sched_laws.specs.EachPlace.{EachPlace}
use Rattle.sched_laws.proofs.Lists.{item_below}
use Rattle.state_ranges.specs.Records.{HasRecords, IsRecorded}
use Rattle.cpupool.specs.Facts.{KeepsFacts, subject_of_pool, subject_of_domain, no_subject, stored_from, stored_in, subject_rate, subject_stored}
use Rattle.sched_model.specs.Policy.{unit_stored}
use Rattle.cpupool.specs.Verdicts.{stored_weight_reply, stored_refusal, stored_rtds_reply}
use Rattle.sched_base.specs.Units.{unit_id}

-- the rate limit of the pool that is named
pub rate-known : (s : State) (which : Which) (i : ℕ) (pool : Pool) → meant_pool s which ≡ Some i → at_place s.pools i ≡ Some pool → subject_rate s (subject_of_pool s which) ≡ pool_rate_limit pool.scheduler.records
rate-known s which i pool is at =
    let rate_in : Option Pool → ℕ = λ o. elim o [ None ↦ 0 | Some p ↦ pool_rate_limit p.scheduler.records ] in
    let rate : Option ℕ → ℕ = λ o. subject_rate s (record { pool = option_map pool_number o; dom = None }) in
    ap rate is ∙ ap rate_in at

-- the set values of the domain that is named
pub units-known : (m : Machine) (s : State) (which : Which) (d i : ℕ) (pool : Pool) (domain : Domain)
    → meant_domain m which ≡ Some d → home_pool_of_domain s d ≡ Some i → at_place s.pools i ≡ Some pool → at_place pool.domains d ≡ Some domain
    → subject_stored m.config.granularity s (subject_of_domain m s which no_subject) ≡ stored_from pool.scheduler.records d 0 (domain_unit_count m.config.granularity domain)
units-known m s which d i pool domain is lives at inside =
    let g = m.config.granularity in
    let subject : Option ℕ → Subject = λ o. elim o [ None ↦ no_subject | Some e ↦ record { pool = option_map pool_number (home_pool_of_domain s e); dom = Some (domain_number e) } ] in
    let by_home : Option ℕ → List Stored = λ o. subject_stored g s (record { pool = option_map pool_number o; dom = Some (domain_number d) }) in
    let by_pool : Option Pool → List Stored = λ o. elim o [ None ↦ [] | Some p ↦ stored_in g p d ] in
    let by_domain : Option Domain → List Stored = λ o. elim o [ None ↦ [] | Some x ↦ stored_from pool.scheduler.records d 0 (domain_unit_count g x) ] in
    ap (λ o. subject_stored g s (subject o)) is ∙ ap by_home lives ∙ ap by_pool at ∙ ap by_domain inside

-- the subject of a command that names the domain d
pub subject-known : (m : Machine) (s : State) (which : Which) (otherwise : Subject) (d : ℕ) → meant_domain m which ≡ Some d → (subject_of_domain m s which otherwise).dom ≡ Some (domain_number d)
subject-known m s which otherwise d is =
    let subject : Option ℕ → Subject = λ o. elim o [ None ↦ otherwise | Some e ↦ record { pool = option_map pool_number (home_pool_of_domain s e); dom = Some (domain_number e) } ] in
    ap (λ o. (subject o).dom) is

-- what is told of weight and cap, where the domain has a record
pub weight-known : (records : Credit2Records) (d count : ℕ) → 1 ≤ count → length (stored_from (Credit2Pool records) d 0 count) ≡ count
    → stored_weight_reply (stored_from (Credit2Pool records) d 0 count) ≡ (elim (at_place records.domains d) [ None ↦ reply.Done | Some x ↦ reply.Weight x.weight x.cap ])
weight-known records d zero some all = absurd (omega arith)
weight-known records d (suc count) some all =
    let units : Option Credit2Domain → List Stored = λ o. elim (option_map (λ (x : Credit2Domain). stored.Credit2 x.weight x.cap) o) [ None ↦ [] | Some v ↦ v ∷ stored_from (Credit2Pool records) d 1 count ] in
    elim (at_place records.domains d) as (λ o. stored_weight_reply (units o) ≡ (elim o [ None ↦ reply.Done | Some x ↦ reply.Weight x.weight x.cap ])) [
      | None ↦ refl
      | Some x ↦ refl
    ]

-- what is stored of an RTDS unit
abbrev pub rtds_stored : RtdsUnit → Stored
rtds_stored x = stored.Rtds (span x.next_period) (span x.next_budget) x.next_extra

-- what is stored of the units of an RTDS pool are their records
pub units-stored : (pool : Pool) (domains : List (Option (List RtdsUnit))) → pool.scheduler.records ≡ RtdsPool domains → (d first count : ℕ) → stored_from pool.scheduler.records d first count ≡ map rtds_stored (rtds_units pool d first count)
units-stored pool domains is d first zero = refl
units-stored pool domains is d first (suc count) =
    let by_stored : Option Stored → List Stored = λ o. elim o [ None ↦ [] | Some v ↦ v ∷ stored_from pool.scheduler.records d (suc first) count ] in
    let by_unit : Option RtdsUnit → List RtdsUnit = λ o. elim o [ None ↦ [] | Some x ↦ x ∷ rtds_units pool d (suc first) count ] in
    let here : unit_stored pool.scheduler.records (unit_id d first) ≡ option_map rtds_stored (unit_rtds_record pool.scheduler.records (unit_id d first)) =
    let P : Records → Type 0 = λ records. unit_stored records (unit_id d first) ≡ option_map rtds_stored (unit_rtds_record records (unit_id d first)) in subst P (sym is) refl in
    ap by_stored here
    ∙ elim (unit_rtds_record pool.scheduler.records (unit_id d first)) as (λ o. by_stored (option_map rtds_stored o) ≡ map rtds_stored (by_unit o)) [
      | None ↦ refl
      | Some x ↦ ap (λ rest. rtds_stored x ∷ rest) (units-stored pool domains is d (suc first) count)
    ]

-- the refusal of new parameters
pub fault-stored : (period budget : Option ℕ) (units : List RtdsUnit) → stored_refusal period budget (map rtds_stored units) ≡ rtds_fault period budget units
fault-stored period budget [] = refl
fault-stored period budget (x ∷ units) =
    let left_period = unwrap_or period (x.next_period / 1000) in
    let left_budget = unwrap_or budget (x.next_budget / 1000) in
    let by_budget : Option Refusal → Bool → Option Refusal = λ rest b. elim b [ false ↦ Some (refusal.Range param.Budget left_budget) | true ↦ rest ] in
    let by_period : Option Refusal → Bool → Option Refusal = λ rest b. elim b [ false ↦ Some (refusal.Range param.Period left_period) | true ↦ by_budget rest (in_range 10 left_period left_budget) ] in
    ap (λ rest. by_period rest (in_range 10 1000000000 left_period)) (fault-stored period budget units)

-- the reply for the first of some units
pub reply-stored : (pool : Pool) (d first count : ℕ) (asks : Bool) → 1 ≤ count
    → cond asks (stored_rtds_reply (map rtds_stored (rtds_units pool d first count))) reply.Done
    ≡ (elim (slice_get (rtds_units pool d first 1) 0) [ None ↦ reply.Done | Some x ↦ cond asks (reply.Rtds (x.next_period / 1000) (x.next_budget / 1000) x.next_extra) reply.Done ])
reply-stored pool d first zero asks some = absurd (omega arith)
reply-stored pool d first (suc count) asks some =
    let units : ℕ → Option RtdsUnit → List RtdsUnit = λ n o. elim o [ None ↦ [] | Some x ↦ x ∷ rtds_units pool d (suc first) n ] in
    elim (unit_rtds_record pool.scheduler.records (unit_id d first)) as (λ o. cond asks (stored_rtds_reply (map rtds_stored (units count o))) reply.Done
    ≡ (elim (slice_get (units 0 o) 0) [ None ↦ reply.Done | Some x ↦ cond asks (reply.Rtds (x.next_period / 1000) (x.next_budget / 1000) x.next_extra) reply.Done ])) [
      | None ↦ elim asks as (λ b. cond b reply.Done reply.Done ≡ reply.Done) [ true ↦ refl | false ↦ refl ]
      | Some x ↦ refl
    ]

-- where every unit has a value, one of them alone is that unit's
pub one-stored : (records : Records) (d first count k : ℕ) → k < count → length (stored_from records d first count) ≡ count → take 1 (drop k (stored_from records d first count)) ≡ stored_from records d (first + k) 1
one-stored records d first zero k below all = absurd (omega arith)
one-stored records d first (suc count) zero below all =
    let units : ℕ → Option Stored → List Stored = λ n o. elim o [ None ↦ [] | Some v ↦ v ∷ stored_from records d (suc first) n ] in
    elim (unit_stored records (unit_id d first)) as (λ o. take 1 (units count o) ≡ units 0 o) [ None ↦ refl | Some v ↦ refl ]
    ∙ ap (λ n. stored_from records d n 1) (sym (add-zero first))
one-stored records d first (suc count) (suc k) below all =
    let units : Option Stored → List Stored = λ o. elim o [ None ↦ [] | Some v ↦ v ∷ stored_from records d (suc first) count ] in
    elim (unit_stored records (unit_id d first)) as (λ o. length (units o) ≡ suc count → take 1 (drop (suc k) (units o)) ≡ stored_from records d (first + suc k) 1) [
      | None ↦ λ full. absurd (omega arith)
      | Some v ↦ λ full.
          let next : suc first + k ≡ first + suc k = omega arith in
          one-stored records d (suc first) count k (omega arith) (omega arith) ∙ ap (λ n. stored_from records d n 1) next
    ] all

-- where each of the units has a value, so many are kept
stored-count : (records : Records) (d first count : ℕ) → ((n : ℕ) → n < first + count → (x : Stored) × (unit_stored records (unit_id d n) ≡ Some x)) → length (stored_from records d first count) ≡ count
stored-count records d first zero has = refl
stored-count records d first (suc count) has =
    let here = has first (omega arith) in
    let rest = stored-count records d (suc first) count (λ n low. has n (omega (arith, low))) in
    ap (λ (o : Option Stored). length (elim o as (λ _. List Stored) [ None ↦ [] | Some x ↦ x ∷ stored_from records d (suc first) count ])) here.1 ∙ ap suc rest

stored-each : (records : Records) (d count : ℕ) → IsRecorded records d count → (n : ℕ) → n < 0 + count → (x : Stored) × (unit_stored records (unit_id d n) ≡ Some x)
stored-each (Credit2Pool records) d count kept n low = (stored.Credit2 kept.domain.weight kept.domain.cap, ap (option_map (λ (x : Credit2Domain). stored.Credit2 x.weight x.cap)) kept.at)
stored-each (RtdsPool domains) d count kept n low =
    let item = item_below kept.records n (let same = kept.units in omega (arith, low, same)) in
    (rtds_stored item.0, ap (option_map rtds_stored) (ap (λ (o : Option (List RtdsUnit)). elim o as (λ _. Option RtdsUnit) [ None ↦ None | Some units ↦ slice_get units n ]) kept.at ∙ item.1))
stored-each (ArincPool records) d count kept n low = (stored.Arinc653, refl)
stored-each (NullPool cores) d count kept n low = (stored.Null, refl)

-- where the schedulers keep records of all units, they keep values of those of the domain that a command names
pub facts-kept : (m : Machine) (s : State) (c : Command) → EachPlace (HasRecords m.config.granularity) s.pools → KeepsFacts m s c
facts-kept m s c recorded = λ d named i pool domain home there here.
    let has = recorded i pool there in
    let count = domain_unit_count m.config.granularity domain in
    record {
      some_unit = has.some_unit d.0 domain here;
      all_units = stored-count pool.scheduler.records d.0 0 count (stored-each pool.scheduler.records d.0 count (has.recorded d.0 domain here));
    }

-- The scheduler knows the domains of its pool, and a runnable unit is one of a domain that it knows.
use Rattle.std.proofs.Common.{◌≡◌, ◌≢◌, ◌<◌, ℕ, suc, true, List, refl, arith, subst, sym, ◌∙◌, ap, length}
use Rattle.std.specs.Prelude.{Option, Some, None, option_map, replicate, not, is_none, ◌&&◌, ◌+◌, ◌-◌, ◌*◌}
use Rattle.std.proofs.lemmas.Bool.{ltb-true, lt-ltb}
use Rattle.std.proofs.lemmas.List.{length-replicate}
use Rattle.std.proofs.lemmas.Nat.{le-div}
use Rattle.std.proofs.Math.Decide.{ℕ_discrete}
use Rattle.sched_base.specs.declared.Cores.{Cores}
use Rattle.sched_base.specs.declared.UnitId.{UnitId}
use Rattle.sched_model.specs.declared.config.DomParams.{DomParams}
use Rattle.sched_model.specs.declared.state.Domain.{Domain}
use Rattle.sched_model.specs.declared.state.Resource.{Resource}
use Rattle.sched_model.specs.declared.state.RtdsUnit.{RtdsUnit}
use Rattle.sched_model.specs.declared.state.Records.{Records}
use Rattle.sched_model.specs.declared.state.Records.TheVariants.{Credit2Pool, RtdsPool, ArincPool, NullPool}
use Rattle.sched_model.specs.declared.state.Scheduler.{Scheduler}
use Rattle.sched_model.specs.declared.state.Pool.{Pool}
use Rattle.sched_model.specs.Places.{at_place, put_at, clear_at}
use Rattle.sched_model.specs.State.{is_awake, may_unit_run, unit_runnable}
use Rattle.sched_model.specs.Policy as policy
use Rattle.sched_model.specs.Pool as pools
use Rattle.sched_model.specs.Pool.{domain_unit_count}
use Rattle.sched_laws.proofs.Awake.{part_past}
use Rattle.sched_base.proofs.Bools.{and_right}
use Rattle.sched_laws.proofs.EachPlace.{at_place-put_at, at_place-put_at_other, at_place-clear_at, at_place-clear_at_other, length_set}
use Rattle.sched_laws.proofs.Lists.{some-test_at}
use Rattle.state_ranges.specs.Records.{IsRecorded}
use Rattle.state_ranges.proofs.Measured.{read_measured}
use Rattle.state_ranges.specs.Counts.{shape, units_in as units_in_record}
use Rattle.state_ranges.specs.Counts.{CountsFit, KeepsPool}
use Rattle.sched_ops.specs.Conditions.{is_member}
use Rattle.sched_ops.specs.Seen.{units_of}
use Rattle.policy_laws.specs.Holds.{HasMembers}
use Rattle.policy_laws.proofs.Alike.{units_in, units_of_is}
use Rattle.sched_base.specs.CoreSets.{every_core}

-- a unit with a vCPU that is awake is one of the domain's
unit_within : (g : ℕ) → 0 < g → (d : Domain) (n : ℕ) → unit_runnable g d n ≡ true → n < domain_unit_count g d
unit_within g some d n runs =
    let within = part_past is_awake g (n * g) d.vcpus (and_right (not d.paused && is_none d.moving) _ runs) in
    le-div (suc n) (length d.vcpus + g - 1) g some (let e : suc n * g ≡ n * g + g = grind arith in omega (arith, e, within))

module _ (g : ℕ) where
  -- as many units as the domain has
  units_at : (pool : Pool) (d : ℕ) (x : Domain) → HasMembers g pool → at_place pool.domains d ≡ Some x → units_of pool.scheduler d ≡ domain_unit_count g x
  units_at pool d x has at = units_of_is pool.scheduler d ∙ ap units_in (has.units d ∙ ap (option_map (domain_unit_count g)) at)

  pub runnable_member : 0 < g → (pool : Pool) (u : UnitId) → HasMembers g pool → may_unit_run g pool u ≡ true → is_member pool.scheduler u ≡ true
  runnable_member some pool u has runs =
      let found = some-test_at pool.domains u.dom.0 (λ d. unit_runnable g d u.n) runs in
      let within : u.n < domain_unit_count g found.0 = unit_within g some found.0 u.n found.2 in
      lt-ltb u.n (units_of pool.scheduler u.dom.0) (subst (λ (n : ℕ). u.n < n) (sym (units_at pool u.dom.0 found.0 has found.1)) within)

  -- no unit of a domain that is not there is a member
  pub member_elsewhere : (pool : Pool) (d : ℕ) (u : UnitId) → HasMembers g pool → at_place pool.domains d ≡ None → is_member pool.scheduler u ≡ true → u.dom.0 ≢ d
  member_elsewhere pool d u has none member e =
      let low : u.n < units_of pool.scheduler u.dom.0 = ltb-true u.n (units_of pool.scheduler u.dom.0) member in
      let zero_units : units_of pool.scheduler d ≡ 0 = units_of_is pool.scheduler d ∙ ap units_in (has.units d ∙ ap (option_map (domain_unit_count g)) none) in
      let low_d : u.n < units_of pool.scheduler d = subst (λ (k : ℕ). u.n < units_of pool.scheduler k) e low in
      omega (arith, low_d, zero_units)

  -- a member is a unit of a domain of the pool, and is recorded
  pub member_recorded : (pool : Pool) (u : UnitId) → HasMembers g pool → KeepsPool g pool → is_member pool.scheduler u ≡ true → (count : ℕ) × IsRecorded pool.scheduler.records u.dom.0 count × (u.n < count)
  member_recorded pool u has keeps member =
      elim (at_place pool.domains u.dom.0) as (λ o. at_place pool.domains u.dom.0 ≡ o → (count : ℕ) × IsRecorded pool.scheduler.records u.dom.0 count × (u.n < count)) [
        | None ↦ λ none. absurd (member_elsewhere pool u.dom.0 u has none member refl)
        | Some x ↦ λ at. (
          domain_unit_count g x,
          recorded pool.domains pool.scheduler.records keeps.fit u.dom.0 x at,
          subst (λ (n : ℕ). u.n < n) (units_at pool u.dom.0 x has at) (ltb-true u.n (units_of pool.scheduler u.dom.0) member),
        )
      ] refl
    where
      recorded : (domains : List (Option Domain)) (records : Records) → CountsFit g domains (shape records) → (d : ℕ) (x : Domain) → at_place domains d ≡ Some x → IsRecorded records d (domain_unit_count g x)
      recorded domains (Credit2Pool records) fit d x at = (let r = read_measured units_in_record d (domain_unit_count g x) records.domains (fit.counts_are d x at) in record { domain = r.0; at = r.1; units = r.2 })
      recorded domains (RtdsPool units) fit d x at = (let r = read_measured {X = List RtdsUnit} length d (domain_unit_count g x) units (fit.counts_are d x at) in record { records = r.0; at = r.1; units = r.2 })
      recorded domains (ArincPool records) fit d x at = tt
      recorded domains (NullPool kept) fit d x at = tt

  -- the same domains with the same sets
  pub members_stay : (scheduler : Scheduler) (cores : List (Option Resource)) (pool : Pool) → scheduler.affinity ≡ pool.scheduler.affinity → HasMembers g pool → HasMembers g (record pool { scheduler = scheduler; resources = cores })
  members_stay scheduler cores pool same has = record {
    places = ap length same ∙ has.places;
    units = λ d. ap (λ (sets : List (Option (List Cores))). option_map length (at_place sets d)) same ∙ has.units d;
  }

  -- a domain that joins
  abbrev pub joined : ℕ → ℕ → Domain → DomParams → Pool → Pool
  joined t d domain params pool = record pool { domains = put_at d domain pool.domains; scheduler = policy.joined_scheduler d (domain_unit_count g domain) params t pool.scheduler }

  pub members_joined : (t d : ℕ) (domain : Domain) (params : DomParams) (pool : Pool) → d < length pool.domains → HasMembers g pool → HasMembers g (joined t d domain params pool)
  members_joined t d domain params pool low has =
      let sets : List Cores = replicate (domain_unit_count g domain) every_core in
      let low_sets : d < length pool.scheduler.affinity = subst (λ (n : ℕ). d < n) (sym has.places) low in
      record {
        places = length_set d (Some sets) pool.scheduler.affinity ∙ has.places ∙ sym (length_set d (Some domain) pool.domains);
        units = λ k. elim (ℕ_discrete k d) [
          | yes is ↦ subst (λ (j : ℕ). option_map length (at_place (put_at d sets pool.scheduler.affinity) j) ≡ option_map (domain_unit_count g) (at_place (put_at d domain pool.domains) j)) (sym is)
              (ap (option_map length) (at_place-put_at d sets pool.scheduler.affinity low_sets)
              ∙ ap (λ (n : ℕ). Some n) (length-replicate (domain_unit_count g domain) every_core)
              ∙ sym (ap (option_map (domain_unit_count g)) (at_place-put_at d domain pool.domains low)))
          | no other ↦ ap (option_map length) (at_place-put_at_other d k sets pool.scheduler.affinity other) ∙ has.units k ∙ sym (ap (option_map (domain_unit_count g)) (at_place-put_at_other d k domain pool.domains other))
        ];
      }

  -- a domain that parts
  pub members_parted : (d : ℕ) (pool : Pool) → HasMembers g pool → HasMembers g (pools.pool_without_domain d pool)
  members_parted d pool has = record {
    places = length_set d None pool.scheduler.affinity ∙ has.places ∙ sym (length_set d None pool.domains);
    units = λ k. elim (ℕ_discrete k d) [
      | yes is ↦ subst (λ (j : ℕ). option_map length (at_place (clear_at d pool.scheduler.affinity) j) ≡ option_map (domain_unit_count g) (at_place (clear_at d pool.domains) j)) (sym is)
          (ap (option_map length) (at_place-clear_at d pool.scheduler.affinity) ∙ sym (ap (option_map (domain_unit_count g)) (at_place-clear_at d pool.domains)))
      | no other ↦ ap (option_map length) (at_place-clear_at_other d k pool.scheduler.affinity other) ∙ has.units k ∙ sym (ap (option_map (domain_unit_count g)) (at_place-clear_at_other d k pool.domains other))
    ];
  }

-- A domain that joins a pool: its units may come to wait.
use Rattle.std.proofs.Common.{◌≡◌, ◌<◌, ◌≤◌, ◌+◌, ◌-◌, ℕ, Bool, true, false, List, refl, sym, ap, subst, ◌∙◌, arith, length}
use Rattle.std.specs.Prelude.{Option, Some, None, replicate}
use Rattle.std.proofs.lemmas.Bool.{lt-ltb, false_from_ne_true}
use Rattle.std.proofs.lemmas.List.{length-replicate}
use Rattle.std.proofs.lemmas.Nat.{le-div}
use Rattle.sched_base.specs.declared.Cores.{Cores}
use Rattle.sched_model.specs.declared.config.DomParams.{DomParams}
use Rattle.sched_model.specs.declared.state.Domain.{Domain}
use Rattle.sched_model.specs.declared.state.Pool.{Pool}
use Rattle.sched_model.specs.Places.{at_place, has_listed_unit}
use Rattle.sched_model.specs.Policy.{joined_scheduler}
use Rattle.sched_base.specs.CoreSets.{every_core}
use Rattle.sched_model.specs.Pool.{domain_unit_count}
use Rattle.sched_laws.proofs.Counts.{times_has, times_some}
use Rattle.sched_laws.proofs.EachPlace.{at_place-put_at}
use Rattle.sched_laws.proofs.Lists.{some-test_at}
use Rattle.sched_laws.specs.PoolFacts.{IsStaying}
use Rattle.sched_ops.specs.Conditions.{is_on}
use Rattle.sched_ops.specs.Seen.{units_of}
use Rattle.policy_laws.proofs.Alike.{found_core}
use Rattle.policy_laws.proofs.Members.{joined, member_elsewhere}
use Rattle.policy_laws.proofs.On.{on_joined}
use Rattle.policy_laws.specs.Holds.{Holds}
use Rattle.pool_core.specs.Domains.{MayQueue}
use Rattle.sched_base.specs.Units.{unit_id}

-- a domain has a unit
pub some_units : (g : ℕ) (domain : Domain) → 0 < g → 1 ≤ length domain.vcpus → 1 ≤ domain_unit_count g domain
some_units g domain some has = le-div 1 (length domain.vcpus + g - 1) g some (omega (arith, some, has))

module _ (g t d : ℕ) (pool : Pool) (holds : Holds g t pool) (absent : at_place pool.domains d ≡ None) where
  -- none of its units waits
  absent_waits_not : (n : ℕ) → has_listed_unit pool.scheduler.queue (unit_id d n) ≡ false
  absent_waits_not n = false_from_ne_true (has_listed_unit pool.scheduler.queue (unit_id d n)) (λ is.
      let staying = times_has (IsStaying pool.domains) (unit_id d n) pool.scheduler.queue holds.known.own.queue (times_some (unit_id d n) pool.scheduler.queue is) in
      let there = (some-test_at pool.domains d _ staying).1 in
      cc)

  -- none of its units is on after it joined
  joined_off : (n : ℕ) (domain : Domain) (params : DomParams) → is_on (joined g t d domain params pool).scheduler.records (unit_id d n) ≡ true → ⊥
  joined_off n domain params is =
      let found = found_core (joined g t d domain params pool) (unit_id d n) ((on_joined g t d domain params pool absent holds.members holds.units holds.on).off (unit_id d n) is) in
      member_elsewhere g pool d (unit_id d n) holds.members absent ((holds.units found.0 found.1 found.2).cur (unit_id d n) found.3) refl

  -- its units may come to wait
  pub comers_may : (n : ℕ) (domain : Domain) (params : DomParams) → d < length pool.domains → n < domain_unit_count g domain → MayQueue (joined g t d domain params pool) (unit_id d n)
  comers_may n domain params low below = record {
    member =
        let count : units_of (joined_scheduler d (domain_unit_count g domain) params t pool.scheduler) d ≡ domain_unit_count g domain =
        ap (λ (o : Option (List Cores)). elim o as (λ _. ℕ) [ None ↦ 0 | Some sets ↦ length sets ]) (at_place-put_at d (replicate (domain_unit_count g domain) every_core) pool.scheduler.affinity (subst (λ (k : ℕ). d < k) (sym holds.members.places) low))
        ∙ length-replicate (domain_unit_count g domain) every_core in
        lt-ltb n (units_of (joined_scheduler d (domain_unit_count g domain) params t pool.scheduler) d) (subst (λ (k : ℕ). n < k) (sym count) below);
    waits_not = absent_waits_not n;
    off = λ none. by_on (is_on (joined_scheduler d (domain_unit_count g domain) params t pool.scheduler).records (unit_id d n)) refl;
  }
    where
      by_on : (b : Bool) → is_on (joined_scheduler d (domain_unit_count g domain) params t pool.scheduler).records (unit_id d n) ≡ b → b ≡ false
      by_on false is = refl
      by_on true is = absurd (joined_off n domain params is)

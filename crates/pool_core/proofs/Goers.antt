-- A domain that goes on after a pause, and one that parts.
use Rattle.std.proofs.Common.{◌≡◌, ◌<◌, ◌/◌, ℕ, Bool, true, false, List, refl, sym, ap, subst, ◌∙◌, arith, length}
use Rattle.std.specs.Prelude.{Option, Some, None, option_map, is_none, is_some, not, slice_get, ◌&&◌}
use Rattle.std.specs.List.{list_any}
use Rattle.std.specs.Option.{ForSome}
use Rattle.std.proofs.lemmas.Bool.{lt-ltb, false_from_ne_true, and_from}
use Rattle.sched_base.specs.Numbers.{domain as domain_number}
use Rattle.sched_base.specs.declared.Cores.{Cores}
use Rattle.sched_base.specs.declared.Moment.{Moment}
use Rattle.sched_base.specs.declared.UnitId.{UnitId}
use Rattle.sched_base.specs.declared.VcpuId.{VcpuId}
use Rattle.sched_model.specs.declared.action.Action.TheVariants.{DomMoved}
use Rattle.sched_model.specs.declared.state.Domain.{Domain}
use Rattle.sched_model.specs.declared.state.Pool.{Pool}
use Rattle.sched_model.specs.declared.state.Vcpu.{Vcpu}
use Rattle.sched_model.specs.Places.{at_place, has_listed_unit, test_at}
use Rattle.sched_model.specs.Pool.{enabled_in, is_domain_unit, is_unit_off, domain_unit_count, vcpu_unit, pool_vcpu}
use Rattle.sched_model.specs.State.{is_awake, may_unit_run, unit_runnable, vcpus_of_unit}
use Rattle.sched_base.proofs.Bools.{and_left, or_left}
use Rattle.sched_laws.proofs.Counts.{times_has, times_some, total_at}
use Rattle.sched_laws.specs.Counts.{one_at}
use Rattle.sched_laws.proofs.Lists.{is_some_at, some-test_at}
use Rattle.sched_laws.proofs.OnePlace.{off_is, one_same}
use Rattle.sched_laws.specs.PoolFacts.{OnePlace, core_places}
use Rattle.sched_laws.proofs.OwnUnits.{moving_not_staying}
use Rattle.sched_laws.specs.PoolFacts.{IsStaying}
use Rattle.sched_ops.specs.Conditions.{HasNoneBusy, has_joined_domain, is_on}
use Rattle.sched_ops.specs.Seen.{units_of}
use Rattle.unit_state.specs.Parts.{IsStill}
use Rattle.unit_state.specs.Seen.{is_paused_among, units_at}
use Rattle.policy_laws.proofs.Alike.{found_core}
use Rattle.policy_laws.proofs.Units.{none_of_domain, other_domain}
use Rattle.policy_laws.specs.Holds.{AreOn, HasMembers, Holds}
use Rattle.pool_core.specs.Domains.{MayQueue}
use Rattle.sched_base.specs.Units.{unit_id}
use Rattle.pool_core.specs.Wakes.{is_held_among}
use Rattle.pool_core.proofs.Asking.{guest_at}
use Rattle.pool_core.proofs.Withdrawing.{units_known, waits_by}

-- a unit that has no place is not on
nowhere_off : (g : ℕ) (pool : Pool) (u : UnitId) → AreOn pool → has_listed_unit pool.scheduler.queue u ≡ false → is_held_among pool.resources u ≡ false → is_on pool.scheduler.records u ≡ false
nowhere_off g pool u on waits_not none = false_from_ne_true (is_on pool.scheduler.records u) (λ is.
    let off : is_unit_off pool u ≡ true = and_from (not (has_listed_unit pool.scheduler.queue u)) (not (is_held_among pool.resources u)) (ap not waits_not) (ap not none) in
    let found = found_core pool u (on.off u is) in
    let here : one_at u found.1.cur ≡ 1 = ap (one_at u) found.3 ∙ one_same u in
    let some = total_at (core_places u) found.0 found.1 pool.resources found.2 in
    let zero = off_is pool u off in
    omega (arith, here, some, zero))

module _ (g d : ℕ) (pool : Pool) where
  -- no unit of a paused domain is runnable
  paused_idle : (n : ℕ) → is_paused_among pool.domains d ≡ true → may_unit_run g pool (unit_id d n) ≡ false
  paused_idle n paused = by_domain (at_place pool.domains d) paused
    where
      by_domain : (o : Option Domain) → elim o as (λ _. Bool) [ None ↦ false | Some x ↦ x.paused ] ≡ true → elim o as (λ _. Bool) [ None ↦ false | Some x ↦ unit_runnable g x n ] ≡ false
      by_domain None e = refl
      by_domain (Some x) e = ap (λ (b : Bool). (not b && is_none x.moving) && list_any is_awake (vcpus_of_unit g x n)) e

  -- the units of a paused domain may come to wait
  pub paused_may : OnePlace g pool → HasMembers g pool → AreOn pool → is_paused_among pool.domains d ≡ true → (n : ℕ) → n < units_at g (at_place pool.domains d) → MayQueue pool (unit_id d n)
  paused_may one has on paused n below =
      let waits_not : has_listed_unit pool.scheduler.queue (unit_id d n) ≡ false = waits_by g pool (unit_id d n) one ∙ ap (λ (b : Bool). b && not (is_held_among pool.resources (unit_id d n))) (paused_idle n paused) in
      record {
        member = lt-ltb n (units_of pool.scheduler d) (subst (λ (k : ℕ). n < k) (sym (units_known g d pool has)) below);
        waits_not = waits_not;
        off = nowhere_off g pool (unit_id d n) on waits_not;
      }

-- what is known of a domain that may part
module _ (g t d : ℕ) (pool : Pool) (holds : Holds g t pool) (enabled : enabled_in g t pool (DomMoved (domain_number d)) ≡ true) where
  -- it is there, and moving
  goer : (x : Domain) × (at_place pool.domains d ≡ Some x) × (is_some x.moving ≡ true)
  goer = some-test_at pool.domains d (λ x. is_some x.moving) (and_left (test_at pool.domains d (λ x. is_some x.moving)) _ enabled)

  pub goer_here : is_some (at_place pool.domains d) ≡ true
  goer_here = is_some_at (at_place pool.domains d) goer.0 goer.1

  -- its scheduler knows it
  pub goer_joined : has_joined_domain pool.scheduler d ≡ true
  goer_joined = by_sets (at_place pool.scheduler.affinity d) (holds.members.units d ∙ ap (option_map (domain_unit_count g)) goer.1)
    where
      by_sets : (o : Option (List Cores)) → option_map length o ≡ Some (domain_unit_count g goer.0) → is_some o ≡ true
      by_sets None e = absurd (cc)
      by_sets (Some sets) e = refl

  -- none of its units waits, and none is on
  pub goer_idle : HasNoneBusy pool.scheduler d
  goer_idle = record { waiting = λ u of. waits_not u of (has_listed_unit pool.scheduler.queue u) refl; on = λ u of. off u of (is_on pool.scheduler.records u) refl }
    where
      waits_not : (u : UnitId) → u.dom.0 ≡ d → (b : Bool) → has_listed_unit pool.scheduler.queue u ≡ b → b ≡ false
      waits_not u of false is = refl
      waits_not u of true is = absurd (
          let staying = times_has (IsStaying pool.domains) u pool.scheduler.queue holds.known.own.queue (times_some u pool.scheduler.queue is) in
          moving_not_staying d pool.domains u (and_left (test_at pool.domains d (λ x. is_some x.moving)) _ enabled) staying of)

      off : (u : UnitId) → u.dom.0 ≡ d → (b : Bool) → is_on pool.scheduler.records u ≡ b → b ≡ false
      off u of false is = refl
      off u of true is = absurd (
          let found = found_core pool u (holds.on.off u is) in
          other_domain d found.1.cur u (or_left (is_domain_unit d found.1.cur) (is_domain_unit d found.1.saving) (none_of_domain g t d pool enabled found.0 found.1 found.2)) found.3 of)

  -- none of its vCPUs is started
  pub goer_still : ForSome (at_place pool.domains d) IsStill
  goer_still x at n v there = by_start v.started refl
    where
      by_start : (o : Option Moment) → v.started ≡ o → o ≡ None
      by_start None is = refl
      by_start (Some from) is = absurd (
          let id : VcpuId = record { dom = domain_number d; n = n } in
          let stands : pool_vcpu pool id ≡ Some v = ap (λ (o : Option Domain). elim o as (λ _. Option Vcpu) [ None ↦ None | Some y ↦ slice_get y.vcpus n ]) at ∙ there in
          let run = holds.started id v from stands is in
          let found = guest_at g pool run.0 id holds.known run.1 in
          other_domain d found.0.cur (vcpu_unit g id) (or_left (is_domain_unit d found.0.cur) (is_domain_unit d found.0.saving) (none_of_domain g t d pool enabled (run.0 / g) found.0 found.1)) found.2 refl)

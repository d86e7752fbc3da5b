-- What holds of a pool holds after each step, joined from its parts.
use Rattle.std.proofs.Common.{◌≡◌, ◌≤◌, ◌<◌, ℕ, true, List, [], refl, arith, sym, ◌∙◌, ap}
use Rattle.std.specs.Prelude.{Option, Some, None, length, option_map, replicate, slice_get}
use Rattle.std.specs.Option.{ForSome}
use Rattle.std.proofs.lemmas.List.{length-replicate}
use Rattle.sched_base.specs.Numbers.{moment, core, domain as domain_number}
use Rattle.sched_base.specs.declared.Cores.{Cores}
use Rattle.sched_base.specs.declared.Moment.{Moment}
use Rattle.sched_base.specs.declared.UnitId.{UnitId}
use Rattle.sched_model.specs.declared.action.Action.{Action}
use Rattle.sched_model.specs.declared.action.Action.TheVariants.{Moved, DomMoved, Decide, Save}
use Rattle.sched_model.specs.declared.config.DomParams.{DomParams}
use Rattle.sched_model.specs.declared.config.ParamChange.{ParamChange}
use Rattle.sched_model.specs.declared.config.PoolParams.{PoolParams}
use Rattle.sched_model.specs.declared.machine.Machine.{Machine}
use Rattle.sched_model.specs.declared.state.Domain.{Domain}
use Rattle.sched_model.specs.declared.state.Vcpu.{Vcpu}
use Rattle.sched_model.specs.declared.state.Processor.{Processor}
use Rattle.sched_model.specs.declared.state.Resource.{Resource}
use Rattle.sched_model.specs.declared.state.Pool.{Pool}
use Rattle.sched_model.specs.Places.{at_place, put_at, clear_at, change_at, numbers_from}
use Rattle.sched_model.specs.State.{may_unit_run, unit_runnable}
use Rattle.sched_model.specs.EligibleUnits.{Decision}
use Rattle.sched_model.specs.Opening.{joined_core}
use Rattle.sched_model.specs.Policy.{decision_of, empty_records}
use Rattle.sched_model.specs.Pool as pools
use Rattle.sched_model.specs.Pool.{after_in, core_ask, change_processor, decided_core, enabled_in, paused_pool, same_choice, pool_with_leaving, pool_with_moving, changed_pool, settled_pool, domain_unit_count, unpaused_pool, pool_vcpu, pool_with_domain, pool_without_domain}
use Rattle.sched_laws.specs.EachPlace.{EachPlace}
use Rattle.sched_laws.proofs.EachPlace.{EachPlace-empty, EachPlace-change_at, EachPlace-put_at, EachPlace-clear_at, by_option, by_test, by_cond, at_place-replicate}
use Rattle.sched_laws.proofs.Kept.{IsKept}
use Rattle.sched_laws.proofs.Known.{known_pools}
use Rattle.sched_laws.specs.PoolFacts.{IsKnownPool}
use Rattle.sched_laws.proofs.Counts.{total_none}
use Rattle.sched_laws.proofs.Lists.{some-test_at}
use Rattle.sched_laws.specs.PoolFacts.{CurRuns, core_places}
use Rattle.sched_laws.specs.PoolFacts.{CoreIsOwn}
use Rattle.sched_laws.specs.PoolFacts.{CoreIsSound}
use Rattle.sched_laws.proofs.Steps.{IsKeptAt}
use Rattle.state_ranges.proofs.Counts.{keeps_parted}
use Rattle.state_ranges.specs.Counts.{Matches, KeepsPool}
use Rattle.state_ranges.proofs.RecordsWalk.{AnyEnds, SomeUnit, k_set_params, k_with_domain, keeps_empty, records_steps}
use Rattle.sched_laws.proofs.Ready.{NoEnd}
use Rattle.sched_ops.specs.Conditions.{may_unit_be_on}
use Rattle.policy_laws.specs.Holds.{Holds, HasMembers, HasMember, AreOn, HaveProcessors}
use Rattle.policy_laws.proofs.Alike.{Alike, is_alike_refl, alike_members, alike_units, alike_on, alike_since}
use Rattle.policy_laws.proofs.Steps as steps
use Rattle.sched_laws.proofs.Events.{kept_settled, kept_by_event, kept_processor, kept_set_leaving, kept_pause, kept_unpause, kept_queue_units}
use Rattle.policy_laws.proofs.Members.{joined, members_stay, members_joined, members_parted}
use Rattle.policy_laws.proofs.Units as units
use Rattle.policy_laws.proofs.On as on
use Rattle.policy_laws.proofs.Started as started

-- the moments since which cores run their units have come
abbrev HaveCome : ℕ → Pool → Type 0
HaveCome t pool = EachPlace (λ (c : Resource). c.since.0 ≤ t) pool.resources

-- all but what other crates prove
record Rest (g t : ℕ) (pool : Pool) : Type 0 where
  members : HasMembers g pool
  units : EachPlace (HasMember pool) pool.resources
  on : AreOn pool
  since : HaveCome t pool

rest_of : (g t : ℕ) (pool : Pool) → Holds g t pool → Rest g t pool
rest_of g t pool h = record { members = h.members; units = h.units; on = h.on; since = h.since }

rest_alike : (g t : ℕ) (pool next : Pool) → Alike g pool next → Rest g t pool → Rest g t next
rest_alike g t pool next alike r = record {
  members = alike_members g pool next alike r.members;
  units = alike_units g pool next alike r.units;
  on = alike_on g pool next alike r.on;
  since = alike_since g t pool next alike r.since;
}

since_decide : (g t r : ℕ) (c : Resource) (pool : Pool) → at_place pool.resources r ≡ Some c → HaveCome t pool → HaveCome t (pools.after_decide g t r c pool)
since_decide g t r c pool at since =
    let decision : Decision = decision_of (core_ask g t pool r c) pool.scheduler in
    EachPlace-put_at (λ (x : Resource). x.since.0 ≤ t) r (decided_core t decision c) pool.resources since
    (by_test (λ (x : Resource). x.since.0 ≤ t) (same_choice decision.unit c.cur) _ _ (λ is. since r c at) (λ is. omega arith))

since_save : (g t r : ℕ) (u : UnitId) (pool : Pool) → HaveCome t pool → HaveCome t (pools.after_save g r u pool)
since_save g t r u pool since =
    let here : EachPlace (λ (x : Resource). x.since.0 ≤ t) (change_at r pools.saved_core pool.resources) = EachPlace-change_at (λ (x : Resource). x.since.0 ≤ t) r pools.saved_core pool.resources since (λ x at come. come) in
    by_cond (HaveCome t) (may_unit_run g pool u) _ _ (λ runs. here) (λ runs. here)

rest_decide : (g t r : ℕ) (c : Resource) (pool : Pool) → at_place pool.resources r ≡ Some c → Holds g t pool → Rest g t (pools.after_decide g t r c pool)
rest_decide g t r c pool at h =
    let chosen = units.chosen_member g h.some t r c pool h.members h.known.one.waits (h.units r c at) in
    record {
      members = members_stay g (pools.after_decide g t r c pool).scheduler (pools.after_decide g t r c pool).resources pool refl h.members;
      units = units.units_decide g h.some t r c pool at h.members h.known.one.waits h.units;
      on = on.on_decide g t r c pool at h.known.one.most h.members h.records chosen h.on;
      since = since_decide g t r c pool at h.since;
    }

rest_save : (g t r : ℕ) (u : UnitId) (pool : Pool) → Holds g t pool → Rest g t (pools.after_save g r u pool)
rest_save g t r u pool h = record {
  members = by_cond (HasMembers g) (may_unit_run g pool u) _ _ (λ runs. members_stay g _ _ pool refl h.members) (λ runs. members_stay g _ _ pool refl h.members);
  units = units.units_save g r u pool h.units;
  on = on.on_save g r u pool h.on;
  since = since_save g t r u pool h.since;
}

rest_acts : (g t : ℕ) (pool : Pool) (action : Action) → Holds g t pool → Rest g t (after_in g t pool action)
rest_acts g t pool (Decide r) h = by_option (Rest g t) (at_place pool.resources r.0) _ _ (λ is. rest_of g t pool h) (λ c is. rest_decide g t r.0 c pool is h)
rest_acts g t pool (Save r) h =
    by_option (Rest g t) (at_place pool.resources r.0) _ _ (λ is. rest_of g t pool h) (λ c is. by_option (Rest g t) c.saving _ _ (λ is2. rest_of g t pool h) (λ u is2. rest_save g t r.0 u pool h))
rest_acts g t pool action h = rest_alike g t pool (after_in g t pool action) (steps.like_acts g t pool action tt) (rest_of g t pool h)

-- the records and the places of units, where the other crates prove them of machines
abbrev machine_of : ℕ → Machine
machine_of g = record { config = record { granularity = g; processors = 0; horizon = moment 0; pools = []; domains = [] }; work = record { stalls = []; commands = [] } }

module _ (g t : ℕ) where
  abbrev H : Pool → Type 0
  H = Holds g t

  known : 0 < g → IsKept g (IsKnownPool g)
  known some = known_pools g some

  records : IsKeptAt (machine_of g) t NoEnd AnyEnds (SomeUnit g) (KeepsPool g) (KeepsPool g)
  records = records_steps (machine_of g) t

  join : (pool : Pool) → 0 < g → IsKnownPool g pool → KeepsPool g pool → Rest g t pool → HaveProcessors g pool → H pool
  join pool some known records r started = record { some = some; known = known; records = records; members = r.members; units = r.units; on = r.on; started = started; since = r.since }

  pub settles : (pool : Pool) → H pool → H (settled_pool t pool)
  settles pool h =
      join (settled_pool t pool) h.some ((known h.some).inside.settles t pool h.known) h.records (rest_alike g t pool (settled_pool t pool) (kept_settled (steps.like_commands g pool) t pool (is_alike_refl g pool)) (rest_of g t pool h)) (kept_settled (started.started_commands g) t pool h.started)

  pub acts : (pool : Pool) (action : Action) → enabled_in g t pool action ≡ true → H pool → H (after_in g t pool action)
  acts pool action on h =
      join (after_in g t pool action) h.some ((known h.some).inside.acts t pool action on h.known) (records.acts pool action tt on h.records) (rest_acts g t pool action h) (kept_by_event (started.started_steps g t) pool action on h.started)

  pub stalls : (p end : ℕ) (pool : Pool) → H pool → H (change_processor g p (λ q. record q { stall_end = moment end }) pool)
  stalls p end pool h =
      let f : Processor → Processor = λ q. record q { stall_end = moment end } in
      join (change_processor g p f pool) h.some ((known h.some).inside.stalls p end pool h.known) h.records (rest_alike g t pool (change_processor g p f pool) (kept_processor (steps.like_parts g t pool) p f pool (is_alike_refl g pool)) (rest_of g t pool h))
      (started.started_stalls g p end pool h.started)

  pub leaves : (r : ℕ) (pool : Pool) → H pool → H (pool_with_leaving r pool)
  leaves r pool h =
      join (pool_with_leaving r pool) h.some ((known h.some).inside.leaves r pool h.known) h.records (rest_alike g t pool (pool_with_leaving r pool) (kept_set_leaving (steps.like_commands g pool) r pool (is_alike_refl g pool)) (rest_of g t pool h)) (kept_set_leaving (started.started_commands g) r pool h.started)

  pub moves : (d i : ℕ) (pool : Pool) → H pool → H (pool_with_moving d i pool)
  moves d i pool h =
      join (pool_with_moving d i pool) h.some ((known h.some).inside.moves d i pool h.known) (records.moves d i pool h.records) (rest_alike g t pool (pool_with_moving d i pool) (steps.like_set_moving g d i pool) (rest_of g t pool h))
      (started.started_set_moving g d i pool h.started)

  pub pauses : (d : ℕ) (pool : Pool) → H pool → H (paused_pool d pool)
  pauses d pool h =
      join (paused_pool d pool) h.some ((known h.some).inside.pauses d pool h.known) (records.pauses d pool h.records) (rest_alike g t pool (paused_pool d pool) (kept_pause (steps.like_commands g pool) d pool (is_alike_refl g pool)) (rest_of g t pool h)) (kept_pause (started.started_commands g) d pool h.started)

  pub unpauses : (d : ℕ) (pool : Pool) → H pool → H (unpaused_pool g d pool)
  unpauses d pool h =
      join (unpaused_pool g d pool) h.some ((known h.some).inside.unpauses d pool h.known) (records.unpauses d pool h.records) (rest_alike g t pool (unpaused_pool g d pool) (kept_unpause (steps.like_commands g pool) d pool (is_alike_refl g pool)) (rest_of g t pool h)) (kept_unpause (started.started_commands g) d pool h.started)

  pub changes : (change : ParamChange) (pool : Pool) → H pool → H (changed_pool change t pool)
  changes change pool h =
      join (changed_pool change t pool) h.some ((known h.some).inside.changes change t pool h.known) (k_set_params g change t pool h.records)
      (rest_alike g t pool (changed_pool change t pool) (steps.like_set_params g change t pool) (rest_of g t pool h)) (started.started_set_params g change t pool h.started)

  -- what comes and goes
  pub core_comes : (r : ℕ) (ends : List Moment) (pool : Pool) → at_place pool.resources r ≡ None → H pool → H (record pool { resources = put_at r (joined_core ends) pool.resources })
  core_comes r ends pool none h =
      let next : Pool = record pool { resources = put_at r (joined_core ends) pool.resources } in
      join next h.some ((known h.some).core_comes r ends pool none h.known) h.records
      (record {
        members = members_stay g pool.scheduler next.resources pool refl h.members;
        units = units.units_core_comes g r ends pool h.units;
        on = on.on_core_comes r ends pool none h.on;
        since = EachPlace-put_at (λ (c : Resource). c.since.0 ≤ t) r (joined_core ends) pool.resources h.since (omega arith);
      })
      (started.started_core_comes g r ends pool none h.started)

  pub core_goes : (r : ℕ) (pool : Pool) → enabled_in g t pool (Moved (core r)) ≡ true → H pool → H (record pool { resources = clear_at r pool.resources })
  core_goes r pool on_goes h =
      let next : Pool = record pool { resources = clear_at r pool.resources } in
      join next h.some ((known h.some).core_goes t r pool on_goes h.known) h.records
      (record {
        members = members_stay g pool.scheduler next.resources pool refl h.members;
        units = units.units_core_goes g r pool h.units;
        on = on.on_core_goes g t r pool on_goes h.on;
        since = EachPlace-clear_at (λ (c : Resource). c.since.0 ≤ t) r pool.resources h.since;
      })
      (started.started_core_goes g t r pool on_goes h.known.sound h.started)

  pub domain_comes : (d : ℕ) (domain : Domain) (params : DomParams) (pool : Pool) → domain.moving ≡ None → ((n : ℕ) (x : Vcpu) → slice_get domain.vcpus n ≡ Some x → x.started ≡ None) → at_place pool.domains d ≡ None → d < length pool.domains → 1 ≤ domain_unit_count g domain
      → Matches pool.scheduler.records params → H pool → H (pool_with_domain g t d domain params pool)
  domain_comes d domain params pool stays none_started none low count fits h =
      let base : Pool = joined g t d domain params pool in
      let next : Pool = pool_with_domain g t d domain params pool in
      join next h.some ((known h.some).domain_comes t d domain params pool stays none h.known) (k_with_domain g t d domain params pool fits count h.records).0
      (rest_alike g t base next (kept_queue_units (steps.like_commands g base) d (numbers_from 0 (domain_unit_count g domain)) base (is_alike_refl g base))
      (record {
        members = members_joined g t d domain params pool low h.members;
        units = units.units_joined g t d domain params pool none h.members h.units;
        on = on.on_joined g t d domain params pool none h.members h.units h.on;
        since = h.since;
      }))
      (started.started_with_domain g t d domain params pool none_started h.started)

  pub domain_goes : (d : ℕ) (pool : Pool) → enabled_in g t pool (DomMoved (domain_number d)) ≡ true → H pool → H (pool_without_domain d pool)
  domain_goes d pool on_goes h =
      join (pool_without_domain d pool) h.some ((known h.some).domain_goes t d pool on_goes h.known) (keeps_parted g d pool.domains pool.scheduler.records h.records)
      (record {
        members = members_parted g d pool h.members;
        units = units.units_parted g t d pool on_goes h.units;
        on = on.on_parted g t d pool on_goes h.on;
        since = h.since;
      })
      (started.started_without_domain g d pool h.started)

  -- a pool that has nothing yet
  pub opened : (domains cores places : ℕ) (params : PoolParams) → 0 < g
      → H (record { scheduler = record { queue = []; affinity = replicate domains None; records = empty_records params domains cores }; domains = replicate domains None; resources = replicate places None })
  opened domains cores places params some =
      let pool : Pool = record { scheduler = record { queue = []; affinity = replicate domains None; records = empty_records params domains cores }; domains = replicate domains None; resources = replicate places None } in
      let no_domain : (d : ℕ) → at_place pool.domains d ≡ None = at_place-replicate {X = Domain} domains in
      join pool some
      (record {
        own = record { queue = tt; cores = EachPlace-empty (CoreIsOwn pool.domains) places };
        sound = EachPlace-empty (CoreIsSound g) places;
        one = record {
          most = λ u. (let none = total_none (core_places u) pool.resources (EachPlace-empty (λ (c : Resource). core_places u c ≡ 0) places) in omega (arith, none));
          runs = λ u runs. absurd (let found = some-test_at pool.domains u.dom.0 (λ (x : Domain). unit_runnable g x u.n) runs in let none = no_domain u.dom.0 in let at = found.1 in cc);
          waits = tt;
          cur = EachPlace-empty (CurRuns g pool.domains) places;
        };
      })
      (keeps_empty g domains cores params)
      (record {
        members = record {
          places = length-replicate domains None ∙ sym (length-replicate domains None);
          units = λ d. ap (option_map length) (at_place-replicate {X = List Cores} domains d) ∙ sym (ap (option_map (domain_unit_count g)) (no_domain d));
        };
        units = EachPlace-empty (HasMember pool) places;
        on = record {
          own = EachPlace-empty (λ (c : Resource). ForSome c.cur (λ u. may_unit_be_on pool.scheduler.records u ≡ true)) places;
          off = λ u is. absurd (let none = on.none_on params domains cores u in cc);
        };
        since = EachPlace-empty (λ (c : Resource). c.since.0 ≤ t) places;
      })
      (λ v x from is begun. absurd (let none : pool_vcpu pool v ≡ None = ap (λ (o : Option Domain). elim o as (λ _. Option Vcpu) [ None ↦ None | Some d ↦ slice_get d.vcpus v.n ]) (no_domain v.dom.0) in cc))

pub later : (g s t : ℕ) (pool : Pool) → s ≤ t → Holds g s pool → Holds g t pool
later g s t pool before h = record {
  some = h.some;
  known = h.known;
  records = h.records;
  members = h.members;
  units = h.units;
  on = h.on;
  started = h.started;
  since = λ r c at. (let come = h.since r c at in omega (arith, before, come));
}

-- The steps after which a pool is like the one before: all but a Decide and a Save, and what comes and goes.
use Rattle.std.proofs.Common.{◌≡◌, ℕ, List, refl, ap, length}
use Rattle.std.specs.Prelude.{Option, Some, ◌+◌, ◌-◌, ◌/◌}
use Rattle.sched_base.specs.Numbers.{pool as pool_number}
use Rattle.sched_base.specs.declared.Cores.{Cores}
use Rattle.sched_base.specs.declared.UnitId.{UnitId}
use Rattle.sched_model.specs.declared.action.Action.{Action}
use Rattle.sched_model.specs.declared.action.Action.TheVariants.{Decide, Save}
use Rattle.sched_model.specs.declared.config.ParamChange.{ParamChange}
use Rattle.sched_model.specs.declared.config.ParamChange.TheVariants as changes
use Rattle.sched_model.specs.declared.state.Domain.{Domain}
use Rattle.sched_model.specs.declared.state.Resource.{Resource}
use Rattle.sched_model.specs.declared.state.Records.{Records}
use Rattle.sched_model.specs.declared.state.Pool.{Pool}
use Rattle.sched_model.specs.Policy as policy
use Rattle.sched_model.specs.Policy.{unit_rtds_record, pinned_cores, changed_affinity}
use Rattle.sched_model.specs.Pool as pools
use Rattle.sched_model.specs.Pool.{after_in, settled_pool, pool_core_set, reconsidered_core, change_core, change_processor, change_vcpu, change_domain, change_cores_of, pending_core, with_doing, started_on, pool_with_leaving, pool_with_moving, paused_pool, unpaused_pool, changed_pool, with_records, is_domain_unit, domain_unit_count}
use Rattle.sched_laws.proofs.Events.{capped, like_of_domain, KeepsCore, KeptByCommands, KeptByParts, commands_of, kept_by_parts, kept_withdrawn, kept_marked}
use Rattle.sched_laws.proofs.Lists.{length-pinned_cores}
use Rattle.sched_ops.specs.Conditions.{is_on}
use Rattle.policy_laws.proofs.RunningLaw as running
use Rattle.policy_laws.specs.RunningUnits.{keeps_records}
use Rattle.policy_laws.proofs.Alike.{AreAlike, Alike, core_face, alike_refl, alike_like, alike_change_at, is_alike_refl, is_alike_trans}

changed_sets : (change : ParamChange) (affinity : List (Option (List Cores))) → AreAlike length affinity (changed_affinity change affinity)
changed_sets (changes.Pin d unit cores) affinity = alike_change_at length d.0 (pinned_cores unit cores) affinity (length-pinned_cores unit cores)
changed_sets change affinity = alike_refl length affinity

module _ (g : ℕ) where
  -- cores that keep their units and the moment since which they run them
  like_cores : (cores : List (Option Resource)) (pool : Pool) → AreAlike core_face pool.resources cores → Alike g pool (record pool { resources = cores })
  like_cores cores pool same = record { sets = alike_refl length _; domains = alike_refl (domain_unit_count g) _; on = λ u. refl; kind = refl; cores = same }

  like_change_core : (r : ℕ) (f : Resource → Resource) (pool : Pool) → ((c : Resource) → core_face (f c) ≡ core_face c) → Alike g pool (change_core r f pool)
  like_change_core r f pool same = like_cores _ pool (alike_change_at core_face r f pool.resources same)

  -- domains that keep the number of their vCPUs
  like_change_domain : (d : ℕ) (f : Domain → Domain) (pool : Pool) → ((x : Domain) → length (f x).vcpus ≡ length x.vcpus) → Alike g pool (change_domain d f pool)
  like_change_domain d f pool same = record {
    sets = alike_refl length _;
    domains = alike_change_at (domain_unit_count g) d f pool.domains (λ x. ap (λ (n : ℕ). (n + g - 1) / g) (same x));
    on = λ u. refl;
    kind = refl;
    cores = alike_refl core_face _;
  }

  -- records that have the same units on
  like_records : (records : Records) (pool : Pool) → ((u : UnitId) → is_on records u ≡ is_on pool.scheduler.records u) → keeps_records records ≡ keeps_records pool.scheduler.records → Alike g pool (with_records records pool)
  like_records records pool on kind = record { sets = alike_refl length _; domains = alike_refl (domain_unit_count g) _; on = on; kind = kind; cores = alike_refl core_face _ }

  -- all events but a Decide and a Save
  abbrev pub IsEven : Action → Type 0
  IsEven (Decide r) = ⊥
  IsEven (Save r) = ⊥
  IsEven _ = Unit {0}

  keeps_face : (c d : Resource) → KeepsCore c d → core_face d ≡ core_face c
  keeps_face c d keeps = (let cur = keeps.cur in let saving = keeps.saving in let since = keeps.since in cc)

  pub like_parts : (t : ℕ) (old : Pool) → KeptByParts g t (λ pool. IsEven) (Alike g old)
  like_parts t old = record {
    cores = λ cores pool like here. is_alike_trans g old pool (record pool { resources = cores }) here (like_cores cores pool (alike_like core_face KeepsCore pool.resources cores keeps_face like));
    domains = λ d f pool count moving here. is_alike_trans g old pool (change_domain d f pool) here (like_change_domain d f pool count);
    queues = λ u pool runs here. here;
    dequeues = λ d pool here. here;
    decides = λ r c pool at even. absurd even;
    saves = λ r c u pool at is even. absurd even;
    replenishes = λ u pool even here. is_alike_trans g old pool (with_records (policy.records_after_replenish pool.scheduler.records t u) pool) here (like_records (policy.records_after_replenish pool.scheduler.records t u) pool (running.replenishes pool.scheduler.records t u) (running.replenishes_kind pool.scheduler.records t u));
    dues = λ r u x first pool even is here. is_alike_trans g old pool (change_core r (pools.due_within t x.budget) pool) here (like_change_core r (pools.due_within t x.budget) pool (λ c. refl));
    refills = λ d pool even here. is_alike_trans g old pool (with_records (policy.records_after_refill pool.scheduler.records t d) pool) here (like_records (policy.records_after_refill pool.scheduler.records t d) pool (running.refills pool.scheduler.records t d) (running.refills_kind pool.scheduler.records t d));
  }

  pub like_commands : (old : Pool) → KeptByCommands g (Alike g old)
  like_commands old = commands_of (like_parts 0 old)

  pub like_acts : (t : ℕ) (pool : Pool) (action : Action) → IsEven action → Alike g pool (after_in g t pool action)
  like_acts t pool action even = kept_by_parts (like_parts t pool) pool action even (is_alike_refl g pool)

  pub like_set_moving : (d i : ℕ) (pool : Pool) → Alike g pool (pool_with_moving d i pool)
  like_set_moving d i pool =
      let f : Domain → Domain = λ domain. record domain { moving = Some (pool_number i) } in
      kept_withdrawn (like_commands pool) d (change_domain d f pool) (like_change_domain d f pool (λ x. refl))

  pub like_set_params : (change : ParamChange) (t : ℕ) (pool : Pool) → Alike g pool (changed_pool change t pool)
  like_set_params change t pool =
      let next : Pool = record pool { scheduler = policy.changed_scheduler change t pool.scheduler } in
      kept_marked (like_commands pool) t caps change next
      (record {
        sets = changed_sets change pool.scheduler.affinity;
        domains = alike_refl (domain_unit_count g) _;
        on = running.changes pool.scheduler.records change t;
        kind = running.changes_kind pool.scheduler.records change t;
        cores = alike_refl core_face _;
      })
    where
      caps : (d : ℕ) (next : Pool) → Alike g pool next → Alike g pool (change_cores_of d (capped t) next)
      caps d next here =
          let Same : Resource → Resource → Type 0 = λ x y. core_face y ≡ core_face x in
          is_alike_trans g pool next (change_cores_of d (capped t) next) here (like_cores _ next (alike_like core_face Same next.resources _ (λ x y now. now) (like_of_domain Same d (capped t) next.resources (λ c. refl) (λ c. refl))))

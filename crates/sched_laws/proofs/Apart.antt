-- A step inside of a pool brings it no core and no domain.
use Rattle.std.proofs.Common.{ℕ, List, length}
use Rattle.std.specs.Prelude.{Option, Some}
use Rattle.sched_base.specs.Numbers.{pool as pool_number}
use Rattle.sched_model.specs.declared.config.Config.{Config}
use Rattle.sched_model.specs.declared.config.DomParams.{DomParams}
use Rattle.sched_model.specs.declared.config.PoolParams.{PoolParams}
use Rattle.sched_model.specs.declared.state.Domain.{Domain}
use Rattle.sched_model.specs.declared.state.Resource.{Resource}
use Rattle.sched_model.specs.Places.{numbers_from}
use Rattle.sched_model.specs.declared.state.Pool.{Pool}
use Rattle.sched_model.specs.declared.state.Scheduler.{Scheduler}
use Rattle.sched_model.specs.Opening.{fresh_pool, machine_core_count}
use Rattle.sched_model.specs.Policy as policy
use Rattle.sched_model.specs.Pool as pools
use Rattle.sched_model.specs.Pool.{change_core, change_domain, changed_pool, pool_with_domain}
use Rattle.sched_laws.specs.EachPlace.{EachAt}
use Rattle.sched_laws.proofs.EachPlace.{EachAt-change_at, EachAt-put_at, EachPlace-empty}
use Rattle.sched_laws.proofs.Kept.{IsKeptInside}
use Rattle.sched_laws.proofs.Events.{LikePlaces, like_change_at, like_change_each, EachAt-like, KeepsCore, Anyway, KeptByCommands, KeptByParts, commands_of, kept_settled, kept_processor, kept_by_parts, kept_set_leaving, kept_withdrawn, kept_pause, kept_unpause, kept_marked, kept_queue_units}

-- the pool has no core but these, and no domain but these
pub record HasOnly (C D : ℕ → Type 0) (pool : Pool) : Type 0 where
  pub cores : EachAt (λ r (c : Resource). C r) pool.resources
  pub domains : EachAt (λ d (x : Domain). D d) pool.domains

module _ (C D : ℕ → Type 0) where
  abbrev Only : Pool → Type 0
  Only = HasOnly C D

  only_cores : (R : Resource → Resource → Type 0) (cores : List (Option Resource)) (pool : Pool) → LikePlaces R pool.resources cores → Only pool → Only (record pool { resources = cores })
  only_cores R cores pool like only = record { cores = EachAt-like R (λ r c. C r) pool.resources cores like (λ r c d same here. here) only.cores; domains = only.domains }

  only_change_core : (r : ℕ) (f : Resource → Resource) (pool : Pool) → Only pool → Only (change_core r f pool)
  only_change_core r f pool only = only_cores (λ c d. Unit {0}) _ pool (like_change_at (λ c d. Unit {0}) r f pool.resources (λ c. tt) (λ c at. tt)) only

  only_change_domain : (d : ℕ) (f : Domain → Domain) (pool : Pool) → Only pool → Only (change_domain d f pool)
  only_change_domain d f pool only = record { cores = only.cores; domains = EachAt-change_at (λ d x. D d) d f pool.domains only.domains (λ x at here. here) }

  only_scheduler : (scheduler : Scheduler) (pool : Pool) → Only pool → Only (record pool { scheduler = scheduler })
  only_scheduler scheduler pool only = record { cores = only.cores; domains = only.domains }

  only_parts : (g t : ℕ) → KeptByParts g t Anyway Only
  only_parts g t = record {
    cores = only_cores KeepsCore;
    domains = λ d f pool count moving. only_change_domain d f pool;
    queues = λ u pool runs. only_scheduler _ pool;
    dequeues = λ d pool. only_scheduler _ pool;
    decides = λ r c pool at on only. record { cores = EachAt-put_at (λ r c. C r) r _ pool.resources only.cores (only.cores r c at); domains = only.domains };
    saves = λ r c u pool at is on. only_change_core r pools.saved_core pool;
    replenishes = λ u pool on. only_scheduler _ pool;
    dues = λ r u x old pool on is. only_change_core r _ pool;
    refills = λ d pool on. only_scheduler _ pool;
  }

  pub only_inside : (g : ℕ) → IsKeptInside g Only
  only_inside g =
      let commands : KeptByCommands g Only = commands_of (only_parts g 0) in
      record {
        settles = kept_settled commands;
        stalls = λ p end. kept_processor (only_parts g 0) p _;
        acts = λ t pool action on. kept_by_parts (only_parts g t) pool action tt;
        leaves = kept_set_leaving commands;
        moves = λ d i pool only. kept_withdrawn commands d _ (only_change_domain d (λ domain. record domain { moving = Some (pool_number i) }) pool only);
        pauses = kept_pause commands;
        unpauses = kept_unpause commands;
        changes = λ change t pool only. kept_marked commands t (λ d next. only_cores (λ c d. Unit {0}) _ next (like_change_each (λ c d. Unit {0}) _ next.resources (λ r c. tt))) change _ (only_scheduler (policy.changed_scheduler change t pool.scheduler) pool only);
      }

  pub only_with_domain : (g t d : ℕ) (domain : Domain) (params : DomParams) (pool : Pool) → D d → Only pool → Only (pool_with_domain g t d domain params pool)
  only_with_domain g t d domain params pool may only =
      kept_queue_units (commands_of (only_parts g t)) d (numbers_from 0 (pools.domain_unit_count g domain)) _
      (record { cores = only.cores; domains = EachAt-put_at (λ d x. D d) d domain pool.domains only.domains may })

  pub only_empty : (config : Config) (params : PoolParams) → Only (fresh_pool config params)
  only_empty config params = record {
    cores = λ r c at. absurd (EachPlace-empty {X = Resource} (λ y. ⊥) (machine_core_count config) r c at);
    domains = λ d x at. absurd (EachPlace-empty {X = Domain} (λ y. ⊥) (length config.domains) d x at);
  }

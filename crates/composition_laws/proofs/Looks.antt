-- A step inside of a pool leaves its cores and its domains, and which of them move.
use Rattle.std.proofs.Common.{◌≡◌, ◌∙◌, ℕ, Bool, refl}
use Rattle.std.specs.Prelude.{Option, is_some, option_map}
use Rattle.sched_base.specs.declared.PoolId.{PoolId}
use Rattle.sched_model.specs.declared.config.ParamChange.{ParamChange}
use Rattle.sched_model.specs.declared.state.Domain.{Domain}
use Rattle.sched_model.specs.declared.state.Resource.{Resource}
use Rattle.sched_model.specs.Places.{at_place, change_each}
use Rattle.sched_model.specs.declared.state.Pool.{Pool}
use Rattle.sched_model.specs.declared.state.Scheduler.{Scheduler}
use Rattle.sched_model.specs.Policy as policy
use Rattle.sched_model.specs.Pool as pools
use Rattle.sched_model.specs.Pool.{change_core, change_domain, paused_pool, unpaused_pool, changed_pool}
use Rattle.sched_laws.proofs.Events.{like_look, KeepsCore, Anyway, KeptByCommands, KeptByParts, commands_of, kept_withdrawn, kept_pause, kept_unpause, kept_marked}
use Rattle.composition_laws.proofs.Places.{some_change_at, seen_change_at, some_change_each, some_put_at}

-- whether the pool has the core; the domain's target, where the pool has the domain, and where it moves
abbrev pub has_core_in : Pool → ℕ → Bool
has_core_in pool r = is_some (at_place pool.resources r)

abbrev pub moving_in : Pool → ℕ → Option (Option PoolId)
moving_in pool d = option_map (λ (x : Domain). x.moving) (at_place pool.domains d)

-- the pool has just these cores and just these domains, each with its target where it moves
pub record LooksLike (C : ℕ → Bool) (D : ℕ → Option (Option PoolId)) (pool : Pool) : Type 0 where
  pub cores : (r : ℕ) → has_core_in pool r ≡ C r
  pub domains : (d : ℕ) → moving_in pool d ≡ D d

module _ (C : ℕ → Bool) (D : ℕ → Option (Option PoolId)) where
  abbrev Looks : Pool → Type 0
  Looks = LooksLike C D

  pub looks_change_core : (r : ℕ) (f : Resource → Resource) (pool : Pool) → Looks pool → Looks (change_core r f pool)
  looks_change_core r f pool looks = record { cores = λ q. some_change_at r q f pool.resources ∙ looks.cores q; domains = looks.domains }

  pub looks_change_each : (f : ℕ → Resource → Resource) (pool : Pool) → Looks pool → Looks (record pool { resources = change_each 0 f pool.resources })
  looks_change_each f pool looks = record { cores = λ q. some_change_each q f pool.resources ∙ looks.cores q; domains = looks.domains }

  looks_change_domain : (d : ℕ) (f : Domain → Domain) (pool : Pool) → ((x : Domain) → (f x).moving ≡ x.moving) → Looks pool → Looks (change_domain d f pool)
  looks_change_domain d f pool same looks = record { cores = looks.cores; domains = λ e. seen_change_at d e f (λ (x : Domain). x.moving) same pool.domains ∙ looks.domains e }

  looks_scheduler : (scheduler : Scheduler) (pool : Pool) → Looks pool → Looks (record pool { scheduler = scheduler })
  looks_scheduler scheduler pool looks = record { cores = looks.cores; domains = looks.domains }

  pub looks_parts : (g t : ℕ) → KeptByParts g t Anyway Looks
  looks_parts g t = record {
    cores = λ cores pool like looks. record { cores = λ q. like_look KeepsCore is_some pool.resources cores (λ c d keeps. refl) like q ∙ looks.cores q; domains = looks.domains };
    domains = λ d f pool count moving. looks_change_domain d f pool moving;
    queues = λ u pool runs. looks_scheduler _ pool;
    dequeues = λ d pool. looks_scheduler _ pool;
    decides = λ r c pool at on looks. record { cores = λ q. some_put_at r q _ c pool.resources at ∙ looks.cores q; domains = looks.domains };
    saves = λ r c u pool at is on. looks_change_core r pools.saved_core pool;
    replenishes = λ u pool on. looks_scheduler _ pool;
    dues = λ r u x old pool on is. looks_change_core r _ pool;
    refills = λ d pool on. looks_scheduler _ pool;
  }

  -- neither g nor t matters to what is marked
  looks_commands : (g : ℕ) → KeptByCommands g Looks
  looks_commands g = commands_of (looks_parts g 0)

  pub looks_withdrawn : (d : ℕ) (pool : Pool) → Looks pool → Looks (pools.withdrawn_pool d pool)
  looks_withdrawn = kept_withdrawn (looks_commands 1)

  pub looks_pause : (d : ℕ) (pool : Pool) → Looks pool → Looks (paused_pool d pool)
  looks_pause = kept_pause (looks_commands 1)

  pub looks_unpause : (g d : ℕ) (pool : Pool) → Looks pool → Looks (unpaused_pool g d pool)
  looks_unpause g = kept_unpause (looks_commands g)

  pub looks_set_params : (change : ParamChange) (t : ℕ) (pool : Pool) → Looks pool → Looks (changed_pool change t pool)
  looks_set_params change t pool looks = kept_marked (looks_commands 1) t (λ d next. looks_change_each _ next) change _ (looks_scheduler (policy.changed_scheduler change t pool.scheduler) pool looks)

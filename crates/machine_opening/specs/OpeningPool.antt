-- A pool of a machine, while its cores and its domains come in.
use Rattle.std.specs.Prelude.{ℕ, ◌≡◌, ◌≤◌, ◌+◌, ◌-◌, ◌==◌, true, List, [], ◌∷◌, Option, None, length, map, if◌then◌else◌}
use Rattle.sched_model.specs.declared.config.Config.{Config}
use Rattle.sched_model.specs.declared.config.DomConfig.{DomConfig}
use Rattle.sched_model.specs.declared.config.PoolConfig.{PoolConfig}
use Rattle.sched_model.specs.declared.config.SchedKind.{SchedKind}
use Rattle.sched_model.specs.declared.state.Pool.{Pool}
use Rattle.sched_model.specs.declared.state.Resource.{Resource}
use Rattle.sched_model.specs.Actions.{units_from, configured_units}
use Rattle.sched_model.specs.Opening.{pool_at_opening, pool_with_configured, pool_with_domains, domain_at_opening}
use Rattle.sched_model.specs.Places.{at_place}
use Rattle.sched_model.specs.Policy.{records_kind}
use Rattle.sched_model.specs.Pool.{pool_with_domain}
use Rattle.sched_laws.specs.EachPlace.{EachPlace}
use Rattle.unit_state.specs.Guests.{units_in, most_units}
use Rattle.pool_core.specs.Seen.{Seen}

-- the schedulers of the machine's pools
abbrev pub kinds_of : Config → List SchedKind
kinds_of config = map (λ (pool : PoolConfig). pool.kind) config.pools

-- the same with another pool; with other cores
abbrev pub with_pool : Pool → Seen → Seen
with_pool pool seen = record seen { pool = pool }

abbrev pub with_cores : List (Option Resource) → Seen → Seen
with_cores cores seen = with_pool (record seen.pool { resources = cores }) seen

-- how many units the domains have, the first of which is the domain d; how many those have whose home is the pool i
abbrev pub units_in_all : ℕ → ℕ → List DomConfig → ℕ
units_in_all g d domains = length (units_from g d domains)

abbrev pub units_if_home : ℕ → ℕ → DomConfig → ℕ
units_if_home g i joining = (if joining.home.0 == i then configured_units g joining else 0)

abbrev pub units_at_home : ℕ → ℕ → List DomConfig → ℕ
units_at_home g i [] = 0
units_at_home g i (joining ∷ domains) = units_if_home g i joining + units_at_home g i domains

-- the pool with the domain d, whose units may run on all cores; with the sets of cores of its units; with these where its home is the pool i;
-- with the domains from d on whose home that is
abbrev pub after_joining : ℕ → ℕ → DomConfig → Seen → Seen
after_joining g d joining seen = record seen { pool = pool_with_domain g 0 d (domain_at_opening joining) joining.params seen.pool; spare = seen.spare - configured_units g joining }

abbrev pub configured_pool : ℕ → ℕ → DomConfig → Seen → Seen
configured_pool g d joining seen = record seen { pool = pool_with_configured g d joining seen.pool; spare = seen.spare - configured_units g joining }

abbrev pub configured_if : ℕ → ℕ → ℕ → DomConfig → Seen → Seen
configured_if g i d joining seen = (if joining.home.0 == i then configured_pool g d joining seen else seen)

abbrev pub with_all : ℕ → ℕ → ℕ → List DomConfig → Seen → Seen
with_all g i d domains seen = record seen { pool = pool_with_domains g i d domains seen.pool; spare = seen.spare - units_at_home g i domains }

-- the pool i of the machine at its opening
abbrev pub opening_seen : Config → ℕ → PoolConfig → Seen
opening_seen config i home =
    record {
      pool = pool_at_opening config i home;
      granularity = config.granularity;
      spare = most_units - units_at_home config.granularity i config.domains;
      latest = 0;
      in_use = true;
    }

-- the core is to decide
abbrev pub IsPending : Resource → Type 0
IsPending c = c.pending ≡ true

-- the pool is in use, nothing happened yet, and all cores are to decide
pub record IsStill (seen : Seen) : Type 0 where
  pub used : seen.in_use ≡ true
  pub early : seen.latest ≡ 0
  pub pending : EachPlace IsPending seen.pool.resources

-- a pool of the machine into which the domains from d on are still to come
pub record IsOpening (config : Config) (home : PoolConfig) (d : ℕ) (seen : Seen) : Type 0 where
  pub still : IsStill seen
  pub granularity : seen.granularity ≡ config.granularity
  pub kind : records_kind seen.pool.scheduler.records ≡ home.kind
  pub places : length seen.pool.domains ≡ length config.domains
  pub sets : length seen.pool.scheduler.affinity ≡ length config.domains
  pub absent : (n : ℕ) → d ≤ n → at_place seen.pool.domains n ≡ None
  pub room : units_in seen.granularity seen.pool.domains + seen.spare ≡ most_units

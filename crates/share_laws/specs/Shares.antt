-- What a weight promises on a Credit2 pool of one core without caps.
use Rattle.std.specs.Prelude.{ℕ, suc, ◌+◌, ◌-◌, ◌*◌, ◌^◌, ◌==◌, ◌≡◌, ◌≤◌, ◌<◌, ◌⊎◌, List, [], ◌∷◌, ◌++◌, Some, slice_get, map, max, length, if◌then◌else◌}
use Rattle.sched_base.specs.Units.{unit_id}
use Rattle.sched_base.specs.declared.UnitId.{UnitId}
use Rattle.sched_model.specs.declared.config.PoolConfig.{PoolConfig}
use Rattle.sched_model.specs.declared.config.DomConfig.{DomConfig}
use Rattle.sched_model.specs.declared.config.PoolParams.TheVariants as pool_params
use Rattle.sched_model.specs.declared.config.DomParams.{DomParams}
use Rattle.sched_model.specs.declared.config.DomParams.TheVariants as dom_params
use Rattle.sched_model.specs.declared.machine.Machine.{Machine}
use Rattle.sched_model.specs.declared.event.Entry.{Entry}
use Rattle.sched_model.specs.Actions.{configured_units}
use Rattle.sched_model.specs.Machine.{ordered_run}
use Rattle.sched_model.specs.Opening.{opening}
use Rattle.sched_model.specs.Places.{numbers_from}
use Rattle.sched_model.specs.Runs.{Reached, run_start}
use Rattle.sched_laws.specs.StateLaws.{state_after}
use Rattle.service_laws.specs.Service.{has_unit, time_of}
use Rattle.undisturbed_laws.specs.Undisturbed.{HasHome, IsUndisturbed, NeverSleeps}

-- a Credit2 pool of the core r alone, with this rate limit in microseconds, and of domains without caps, on a machine to which nothing happens from outside
pub record IsPlainCredit2 (m : Machine) (i r rate : ℕ) : Type 0 where
  pub calm : IsUndisturbed m
  pub config : PoolConfig
  pub there : slice_get m.config.pools i ≡ Some config
  pub core : config.cores ≡ 2 ^ r
  pub params : config.params ≡ pool_params.Credit2 rate
  pub uncapped : (d : ℕ) (domain : DomConfig) → HasHome m i d domain → (weight : ℕ) × (domain.params ≡ dom_params.Credit2 weight 0)

-- the unit is one of a domain of the pool i with this weight
pub record HasWeight (m : Machine) (i : ℕ) (u : UnitId) (weight : ℕ) : Type 0 where
  pub domain : DomConfig
  pub home : HasHome m i u.dom.0 domain
  pub params : domain.params ≡ dom_params.Credit2 weight 0
  pub inside : u.n < configured_units m.config.granularity domain

-- every unit of the pool i runs for ever
abbrev pub NobodySleeps : Machine → ℕ → Type 0
NobodySleeps m i = (d n : ℕ) (domain : DomConfig) → HasHome m i d domain → n < configured_units m.config.granularity domain → NeverSleeps m (record { dom = record { 0 = d }; n = n })

-- the entries are the ordered run up to one of its entries
pub record IsOrdered (m : Machine) (entries : List Entry) : Type 0 where
  pub count : ℕ
  pub is : entries ≡ ordered_run count m (opening m)

-- a unit that falls asleep does not wake again before the core decides, so that the rate limit alone would keep it on the core: a unit is one vCPU, or nobody
-- sleeps, or there is no rate limit, or the run is ordered, and so each vCPU wakes before one blocks
abbrev pub SleepsAreSeen : Machine → ℕ → ℕ → List Entry → Type 0
SleepsAreSeen m i rate entries = (m.config.granularity ≡ 1) ⊎ NobodySleeps m i ⊎ (rate ≡ 0) ⊎ IsOrdered m entries

-- the longest slice, in nanoseconds: 10 ms, or the rate limit (in microseconds) where that is more
abbrev pub longest_slice : ℕ → ℕ
longest_slice rate = max 10000000 (rate * 1000)

-- the unit u had the core for no longer than its weight gives it beside the unit v, but for one longest slice and a nanosecond, for what is rounded:
-- divided by both weights, u's time by its weight is at most v's time by its own and that slice by u's
abbrev pub IsWithinShare : Machine → ℕ → ℕ → ℕ → UnitId → ℕ → UnitId → ℕ → List Entry → Type 0
IsWithinShare m i r rate u wu v wv entries =
    time_of m (has_unit i r u) (run_start m) entries * wv ≤ time_of m (has_unit i r v) (run_start m) entries * wu + (longest_slice rate + 1) * wv

-- the same in a part of a run: but for one longest slice of each
abbrev pub IsNearShare : Machine → ℕ → ℕ → ℕ → UnitId → ℕ → UnitId → ℕ → Reached → List Entry → Type 0
IsNearShare m i r rate u wu v wv from entries = time_of m (has_unit i r u) from entries * wv ≤ time_of m (has_unit i r v) from entries * wu + (longest_slice rate + 1) * (wu + wv)

-- the weight among the parameters of a domain
abbrev pub weight_of : DomParams → ℕ
weight_of (dom_params.Credit2 weight cap) = weight
weight_of params = 0

-- the units of the domains whose home is the pool i, with their weights; the first domain of the list has the number d, and g is the number of a core's processors
abbrev pub weighted_units : ℕ → ℕ → ℕ → List DomConfig → List (UnitId × ℕ)
weighted_units g i d [] = []
weighted_units g i d (domain ∷ domains) =
    (if domain.home.0 == i then map (λ n. (unit_id d n, weight_of domain.params)) (numbers_from 0 (configured_units g domain)) else []) ++ weighted_units g i (suc d) domains

abbrev pub pool_units : Machine → ℕ → List (UnitId × ℕ)
pool_units m i = weighted_units m.config.granularity i 0 m.config.domains

abbrev pub total_weight : List (UnitId × ℕ) → ℕ
total_weight [] = 0
total_weight (e ∷ units) = e.1 + total_weight units

-- the unit v had the core for its weight's part of all time so far, but for one longest slice and a nanosecond for each other unit of the pool, in the same part:
-- multiplied by the weight of all units
abbrev pub HasShare : Machine → ℕ → ℕ → ℕ → UnitId → ℕ → List Entry → Type 0
HasShare m i r rate v wv entries =
    (state_after m entries).now * wv ≤ time_of m (has_unit i r v) (run_start m) entries * total_weight (pool_units m i) + (length (pool_units m i) - 1) * ((longest_slice rate + 1) * wv)

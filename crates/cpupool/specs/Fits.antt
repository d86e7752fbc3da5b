-- The states whose numbers are in range.
use Rattle.std.specs.Prelude.{◌≤◌, length}
use Rattle.sched_laws.specs.EachPlace.{AllPlaces}
use Rattle.sched_model.specs.declared.state.Domain.{Domain}
use Rattle.sched_model.specs.declared.state.Pool.{Pool}
use Rattle.sched_model.specs.declared.state.State.{State}

-- a domain has at most 32 vCPUs
abbrev pub DomainFits : Domain → Type 0
DomainFits d = length d.vcpus ≤ 32

-- a pool has places for at most 64 cores and 64 domains
pub record PoolFits (pool : Pool) : Type 0 where
  pub cores : length pool.resources ≤ 64
  pub few_domains : length pool.domains ≤ 64
  pub domains : AllPlaces DomainFits pool.domains

-- there are places for at most 16 pools and 64 cores of none
pub record StateFits (s : State) : Type 0 where
  pub names : length s.names ≤ 16
  pub few_pools : length s.pools ≤ 16
  pub pools : AllPlaces PoolFits s.pools
  pub free : length s.free ≤ 64

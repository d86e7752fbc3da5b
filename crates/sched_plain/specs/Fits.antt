-- The numbers of the machine and of the state are in range.
use Rattle.std.specs.Prelude.{◌≤◌, ◌<◌, ℕ, List, [], ◌∷◌, length}
use Rattle.sched_model.specs.declared.config.DomConfig.{DomConfig}
use Rattle.sched_model.specs.declared.machine.Machine.{Machine}
use Rattle.sched_model.specs.declared.state.State.{State}
use Rattle.sched_model.specs.declared.state.Pool.{Pool}
use Rattle.scheduler_records.specs.Fits.{RecordsFit}
use Rattle.pool_records.specs.Fits.{PoolFits}
use Rattle.sched_laws.specs.EachPlace.{AllPlaces}

-- each domain has at most 32 vCPUs
abbrev pub FewGuests : List DomConfig → Type 0
FewGuests [] = Unit {0}
FewGuests (domain ∷ domains) = (length domain.guests ≤ 32) × FewGuests domains

-- the numbers of the machine are in range
pub record MachineFits (m : Machine) : Type 0 where
  pub some_processor : 0 < m.config.granularity
  pub few_siblings : m.config.granularity ≤ 4
  pub few_processors : m.config.processors ≤ 64
  pub few_domains : length m.config.domains ≤ 64
  pub few_guests : FewGuests m.config.domains

-- the numbers of the state are in range
pub record StateFits (s : State) : Type 0 where
  pub few_pools : length s.pools ≤ 16
  pub few_free : length s.free ≤ 64
  pub pools : AllPlaces PoolFits s.pools

-- the numbers of the pool are in range at t, and its queue has no more than there may be units
pub record PoolFitsAt (t : ℕ) (pool : Pool) : Type 0 where
  pub fits : PoolFits pool
  pub records : RecordsFit t pool.scheduler.records
  pub queue : length pool.scheduler.queue ≤ 256

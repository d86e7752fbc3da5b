-- What is known of the state that the entries of a run lead to: where to begin, for whoever needs such a fact.
use Rattle.std.proofs.Common.{◌≡◌, ℕ, true, List, length}
use Rattle.std.specs.Prelude.{Some}
use Rattle.sched_model.specs.declared.event.Entry.{Entry}
use Rattle.sched_model.specs.declared.machine.Machine.{Machine}
use Rattle.sched_model.specs.declared.state.Pool.{Pool}
use Rattle.sched_model.specs.declared.state.Resource.{Resource}
use Rattle.sched_model.specs.Places.{at_place}
use Rattle.sched_model.specs.Opening.{machine_core_count}
use Rattle.sched_model.specs.Actions.{home_pool_of_core, home_pool_of_domain}
use Rattle.sched_model.specs.Runs.{IsRun}
use Rattle.sched_model.specs.CheckedMachine.{IsChecked}
use Rattle.sched_laws.specs.StateLaws.{state_after, has_core_at, has_domain_at}
use Rattle.sched_laws.proofs.Kept.{IsApart}
use Rattle.sched_laws.specs.PoolFacts.{UnitsAreOwn}
use Rattle.sched_laws.specs.PoolFacts.{OnePlace}
use Rattle.sched_laws.specs.PoolFacts.{CoreIsSound}
use Rattle.sched_laws.proofs.PoolsLaw.{home_is}
use Rattle.sched_laws.proofs.StillWaits.{core_home}
use Rattle.sched_laws.proofs.Ready.{ready_in_runs}
use Rattle.sched_laws.proofs.NullKept.{NullFits}
use Rattle.sched_laws.proofs.NullWalk.{IsKeptPool}
use Rattle.sched_laws.proofs.NullLaw.{kept_in_runs}

module _ (m : Machine) (checked : IsChecked m) (entries : List Entry) (run : IsRun m entries) where
  -- no core and no domain is in two pools, and no free core is in one
  pub is_apart : IsApart (state_after m entries)
  is_apart = (kept_in_runs m checked entries run).apart

  -- a pool that has the core, or the domain, is its home
  pub home_of_its_core : (i r : ℕ) → has_core_at (state_after m entries) i r ≡ true → home_pool_of_core (state_after m entries) r ≡ Some i
  home_of_its_core i r has = core_home (state_after m entries) i r is_apart has

  pub home_of_its_domain : (i d : ℕ) → has_domain_at (state_after m entries) i d ≡ true → home_pool_of_domain (state_after m entries) d ≡ Some i
  home_of_its_domain i d has = home_is (state_after m entries) i d is_apart has

  module _ (i : ℕ) (pool : Pool) (at : at_place (state_after m entries).pools i ≡ Some pool) where
    is_kept : IsKeptPool m.config.granularity pool
    is_kept = (kept_in_runs m checked entries run).pools i pool at

    -- the units that wait are of domains of the pool that are not moving; those on cores are of domains of the pool
    pub units_are_own : UnitsAreOwn pool
    units_are_own = is_kept.known.own

    -- a unit stands at one place at most, and at one where it is runnable; those that wait are runnable; a core whose unit is not is pending
    pub one_place : OnePlace m.config.granularity pool
    one_place = is_kept.known.one

    -- a null pool's cores are kept for as many units as it has places for cores, and so on
    pub null_fits : NullFits pool.scheduler.records pool.resources
    null_fits = is_kept.fits

    -- there is a place for each core of the machine
    pub places_for_cores : length pool.resources ≡ machine_core_count m.config
    places_for_cores = ((ready_in_runs m checked entries run).pools i pool at).fit.fits.count

    -- a core: its guests at their places, its stage, and what it saves; and all its processors
    pub core_is_sound : (r : ℕ) (c : Resource) → at_place pool.resources r ≡ Some c → CoreIsSound m.config.granularity c
    core_is_sound r c has = is_kept.known.sound r c has

    pub core_is_whole : (r : ℕ) (c : Resource) → at_place pool.resources r ≡ Some c → length c.processors ≡ m.config.granularity
    core_is_whole r c has = (((ready_in_runs m checked entries run).pools i pool at).fit.fits.cores r c has).processors

-- What the tool needs of a state that a run leads to: it is small, and the schedulers keep values of the domains' units.
use Rattle.std.proofs.Common.{◌≤◌, List, [], ◌∷◌, subst, arith}
use Rattle.std.specs.Prelude.{Option, Some, None}
use Rattle.sched_model.specs.declared.machine.Machine.{Machine}
use Rattle.sched_model.specs.declared.state.Pool.{Pool}
use Rattle.sched_model.specs.declared.state.State.{State}
use Rattle.sched_model.specs.Runs.{Reached}
use Rattle.sched_laws.specs.EachPlace.{EachPlace, AllPlaces}
use Rattle.state_ranges.specs.Records.{HasRecords}
use Rattle.state_ranges.proofs.RecordsLaw.{has_records}
use Rattle.pool_records.specs.Fits as pools
use Rattle.cpupool.specs.Fits.{DomainFits, PoolFits, StateFits}
use Rattle.sched_plain.specs.ReachedStates.{Stands}
use Rattle.sched_plain.proofs.Reaching.{reached-in_range}
use Rattle.sched_plain.proofs.Bridges.{all-places, few_cores, stands-pool}

-- less of each place
all-less : {X : Type 0} (P Q : X → Type 0) (places : List (Option X)) → ((x : X) → P x → Q x) → AllPlaces P places → AllPlaces Q places
all-less P Q [] less all = tt
all-less P Q (None ∷ places) less all = all-less P Q places less all
all-less P Q (Some x ∷ places) less all = (less x all.0, all-less P Q places less all.1)

pool-small : (pool : Pool) → pools.PoolFits pool → PoolFits pool
pool-small pool fits = record { cores = fits.cores; few_domains = fits.few_domains; domains = all-less pools.DomainFits DomainFits pool.domains (λ domain few. few.few) fits.domains }

module _ (m : Machine) (s : State) (stands : Stands m s) where
  pub stands-small : StateFits s
  stands-small =
      let range = reached-in_range m s stands in
      record {
        names = (let count = range.name_places in omega (arith, count));
        few_pools = (let count = range.pool_places in omega (arith, count));
        pools = all-places PoolFits s.pools (λ i pool at. pool-small pool (stands-pool m s stands i pool at).fits);
        free = (let count = range.free_places in let few = few_cores m stands.checked in omega (arith, count, few));
      }

  -- the schedulers keep records of all units
  pub stands-recorded : EachPlace (HasRecords m.config.granularity) s.pools
  stands-recorded = subst (λ (from : Reached). EachPlace (HasRecords m.config.granularity) from.state.pools) stands.reached.leads (has_records m stands.checked stands.reached.entries stands.reached.run)

  -- there are few commands
  pub few-commands : s.next_command ≤ 4096
  few-commands = (let count = (reached-in_range m s stands).commands in let few = stands.checked.work.few_commands in omega (arith, count, few))

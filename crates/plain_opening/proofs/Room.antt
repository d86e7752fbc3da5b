-- The queues of the pools have room at the opening.
use Rattle.std.proofs.Common.{◌≡◌, ℕ, suc, List, [], ◌∷◌, ◌++◌, refl}
use Rattle.std.specs.Prelude.{Option, Some}
use Rattle.sched_model.specs.declared.config.Config.{Config}
use Rattle.sched_model.specs.declared.config.PoolConfig.{PoolConfig}
use Rattle.sched_model.specs.declared.machine.Machine.{Machine}
use Rattle.sched_model.specs.declared.state.Pool.{Pool}
use Rattle.sched_model.specs.CheckedMachine.{IsChecked}
use Rattle.sched_model.specs.Opening.{pools_at_opening, pool_at_opening}
use Rattle.sched_model.specs.Places.{at_place}
use Rattle.state_ranges.proofs.Done.{in_range}
use Rattle.plain_opening.specs.OpeningPool.{FewWait, AllFewWait}

-- where it holds of all that stands at a place
each_few : (config : Config) (i : ℕ) (pools : List PoolConfig) (rest : List (Option Pool)) → ((k : ℕ) (x : Pool) → at_place (pools_at_opening config i pools ++ rest) k ≡ Some x → FewWait x)
    → AllFewWait config i pools
each_few config i [] rest few = tt
each_few config i (pool ∷ pools) rest few = (few 0 (pool_at_opening config i pool) refl, each_few config (suc i) pools rest (λ k x is. few (suc k) x is))

-- at the opening of a machine
pub few_wait : (m : Machine) → IsChecked m → AllFewWait m.config 0 m.config.pools
few_wait m checked = each_few m.config 0 m.config.pools _ (λ k x is. ((in_range m checked [] tt).pools k x is).queue_count)

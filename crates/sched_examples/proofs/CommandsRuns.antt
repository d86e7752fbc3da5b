-- Commands, computed.
use Rattle.std.proofs.Common.{refl}
use Rattle.sched_examples.specs.Words.{RunsAs, IsSoundFor}
use Rattle.sched_examples.specs.Commands.{machine_pause_and_unpause, entries_pause_and_unpause, machine_core_changes_pool, entries_core_changes_pool, machine_domain_migrates, entries_domain_migrates, machine_refusals, entries_refusals, machine_new_pool_is_listed, entries_new_pool_is_listed, machine_pools_full, entries_pools_full}

pub pause_and_unpause-run : RunsAs machine_pause_and_unpause entries_pause_and_unpause
unfolding machine_pause_and_unpause entries_pause_and_unpause
pause_and_unpause-run = refl

pub pause_and_unpause-sound : IsSoundFor 11 machine_pause_and_unpause
unfolding machine_pause_and_unpause
pause_and_unpause-sound = refl

pub core_changes_pool-run : RunsAs machine_core_changes_pool entries_core_changes_pool
unfolding machine_core_changes_pool entries_core_changes_pool
core_changes_pool-run = refl

pub core_changes_pool-sound : IsSoundFor 28 machine_core_changes_pool
unfolding machine_core_changes_pool
core_changes_pool-sound = refl

pub domain_migrates-run : RunsAs machine_domain_migrates entries_domain_migrates
unfolding machine_domain_migrates entries_domain_migrates
domain_migrates-run = refl

pub domain_migrates-sound : IsSoundFor 28 machine_domain_migrates
unfolding machine_domain_migrates
domain_migrates-sound = refl

pub refusals-run : RunsAs machine_refusals entries_refusals
unfolding machine_refusals entries_refusals
refusals-run = refl

pub refusals-sound : IsSoundFor 27 machine_refusals
unfolding machine_refusals
refusals-sound = refl

pub new_pool_is_listed-run : RunsAs machine_new_pool_is_listed entries_new_pool_is_listed
unfolding machine_new_pool_is_listed entries_new_pool_is_listed
new_pool_is_listed-run = refl

pub new_pool_is_listed-sound : IsSoundFor 10 machine_new_pool_is_listed
unfolding machine_new_pool_is_listed
new_pool_is_listed-sound = refl

pub pools_full-run : RunsAs machine_pools_full entries_pools_full
unfolding machine_pools_full entries_pools_full
pools_full-run = refl

pub pools_full-sound : IsSoundFor 6 machine_pools_full
unfolding machine_pools_full
pools_full-sound = refl

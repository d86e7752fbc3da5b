use Rattle.std.proofs.Common.{length}
use Rattle.sched_plain.proofs.homes.+any_in_pools.Given as goal

abbrev pub decreases-any_in_pools : goal.decreases-any_in_pools
decreases-any_in_pools l = length l.pools.now

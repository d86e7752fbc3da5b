use Rattle.std.proofs.Common.{length}
use Rattle.sched_plain.proofs.soonest.+of_pools.Given as goal

abbrev pub decreases-of_pools : goal.decreases-of_pools
decreases-of_pools l = length l.pools.now

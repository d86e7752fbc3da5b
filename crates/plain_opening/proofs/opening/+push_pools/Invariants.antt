use Rattle.std.proofs.Common.{length}
use Rattle.plain_opening.proofs.opening.+push_pools.Given as goal

abbrev pub decreases-push_pools : goal.decreases-push_pools
decreases-push_pools l = length l.pools.now

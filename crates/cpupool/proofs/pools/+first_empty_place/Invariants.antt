use Rattle.std.proofs.Common.{length}
use Rattle.cpupool.proofs.pools.+first_empty_place.Given as goal

abbrev pub decreases-first_empty_place : goal.decreases-first_empty_place
decreases-first_empty_place l = length l.pools.now

use Rattle.std.proofs.Common.{length}
use Rattle.cpupool.proofs.pools.+place_named.Given as goal

abbrev pub decreases-place_named : goal.decreases-place_named
decreases-place_named l = length l.names.now

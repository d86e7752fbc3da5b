use Rattle.std.proofs.Common.{length}
use Rattle.plain_pool.proofs.ready.+of_cores.Given as goal

abbrev pub decreases-of_cores : goal.decreases-of_cores
decreases-of_cores l = length l.cores.now

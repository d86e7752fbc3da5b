use Rattle.std.proofs.Common.{length}
use Rattle.cpupool.proofs.opening.+add_outlines.Given as goal

abbrev pub decreases-add_outlines : goal.decreases-add_outlines
decreases-add_outlines l = length l.pools.now

use Rattle.std.proofs.Common.{length}
use Rattle.plain_pool.proofs.ready.+of_blocks.Given as goal

abbrev pub decreases-of_blocks : goal.decreases-of_blocks
decreases-of_blocks l = length l.processors.now

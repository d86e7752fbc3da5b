use Rattle.std.proofs.Common.{length}
use Rattle.pool_records.proofs.cores.+is_on_core.Given as goal

abbrev pub decreases-is_on_core : goal.decreases-is_on_core
decreases-is_on_core l = length l.cores.now

use Rattle.std.proofs.Common.{length}
use Rattle.pool_records.proofs.cores.+core_from.Given as goal

abbrev pub decreases-core_from : goal.decreases-core_from
decreases-core_from l = length l.cores.now

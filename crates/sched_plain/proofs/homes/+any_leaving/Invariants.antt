use Rattle.std.proofs.Common.{length}
use Rattle.sched_plain.proofs.homes.+any_leaving.Given as goal

abbrev pub decreases-any_leaving : goal.decreases-any_leaving
decreases-any_leaving l = length l.cores.now

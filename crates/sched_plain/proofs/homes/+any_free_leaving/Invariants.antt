use Rattle.std.proofs.Common.{length}
use Rattle.sched_plain.proofs.homes.+any_free_leaving.Given as goal

abbrev pub decreases-any_free_leaving : goal.decreases-any_free_leaving
decreases-any_free_leaving l = length l.free.now

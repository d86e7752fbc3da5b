use Rattle.std.proofs.Common.{length}
use Rattle.sched_plain.proofs.first.+any_free_ready.Given as goal

abbrev pub decreases-any_free_ready : goal.decreases-any_free_ready
decreases-any_free_ready l = length l.free.now

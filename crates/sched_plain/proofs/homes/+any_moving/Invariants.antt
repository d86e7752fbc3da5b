use Rattle.std.proofs.Common.{length}
use Rattle.sched_plain.proofs.homes.+any_moving.Given as goal

abbrev pub decreases-any_moving : goal.decreases-any_moving
decreases-any_moving l = length l.domains.now

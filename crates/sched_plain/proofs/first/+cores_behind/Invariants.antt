use Rattle.std.proofs.Common.{◌-◌}
use Rattle.sched_plain.proofs.first.+cores_behind.Given as goal

abbrev pub decreases-cores_behind : goal.decreases-cores_behind
decreases-cores_behind l = 64 - l.r

use Rattle.std.proofs.Common.{◌-◌}
use Rattle.sched_plain.proofs.first.+domains_behind.Given as goal

abbrev pub decreases-domains_behind : goal.decreases-domains_behind
decreases-domains_behind l = 64 - l.d

use Rattle.std.proofs.Common.{length}
use Rattle.scheduler_records.proofs.credit2_running.+greatest_weight.Given as goal

abbrev pub decreases-greatest_weight : goal.decreases-greatest_weight
decreases-greatest_weight l = length l.domains.now

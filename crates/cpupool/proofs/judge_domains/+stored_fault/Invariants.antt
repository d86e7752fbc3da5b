use Rattle.std.proofs.Common.{length}
use Rattle.cpupool.proofs.judge_domains.+stored_fault.Given as goal

abbrev pub decreases-stored_fault : goal.decreases-stored_fault
decreases-stored_fault l = length l.units.now

use Rattle.sched_plain.proofs.pool_floors.+any_meets.Given as goal

abbrev pub decreases-any_meets : goal.decreases-any_meets
decreases-any_meets l = l.count

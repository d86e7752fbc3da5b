use Rattle.sched_plain.proofs.pool_floors.+any_wakes.Given as goal

abbrev pub decreases-any_wakes : goal.decreases-any_wakes
decreases-any_wakes l = l.count

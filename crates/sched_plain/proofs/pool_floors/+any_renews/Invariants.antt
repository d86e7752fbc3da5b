use Rattle.sched_plain.proofs.pool_floors.+any_renews.Given as goal

abbrev pub decreases-any_renews : goal.decreases-any_renews
decreases-any_renews l = l.count

use Rattle.sched_plain.proofs.scan.+first_wake_in.Given as goal

abbrev pub decreases-first_wake_in : goal.decreases-first_wake_in
decreases-first_wake_in l = l.count

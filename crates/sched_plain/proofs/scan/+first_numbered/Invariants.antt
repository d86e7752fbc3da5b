use Rattle.sched_plain.proofs.scan.+first_numbered.Given as goal

abbrev pub decreases-first_numbered : goal.decreases-first_numbered
decreases-first_numbered l = l.count

use Rattle.sched_plain.proofs.scan.+first_repl_in.Given as goal

abbrev pub decreases-first_repl_in : goal.decreases-first_repl_in
decreases-first_repl_in l = l.count

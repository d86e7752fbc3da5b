use Rattle.std.proofs.Common.{length}
use Rattle.sched_plain.proofs.scan.+first_repl.Given as goal

abbrev pub decreases-first_repl : goal.decreases-first_repl
decreases-first_repl l = length l.domains.now

use Rattle.machine_opening.proofs.Joining.{IsBetween}
use Rattle.machine_opening.proofs.domains.join_all.Given as goal

abbrev pub invariant-loop-d : goal.invariant-loop-d
invariant-loop-d g l = IsBetween l.config l.place l.home l.d l.initial.pool l.pool

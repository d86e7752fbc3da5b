use Rattle.std.proofs.Common.{◌≡◌}
use Rattle.sched_ops.specs.Seen.{with_scheduler}
use Rattle.pool_core.proofs.Withdrawing.{without_below}
use Rattle.pool_core.proofs.domains.dequeue_domain.Given as goal

abbrev pub invariant-loop-n : goal.invariant-loop-n
invariant-loop-n g l = g.P.Policy.seen l.policy ≡ with_scheduler (without_below l.d.0 l.n (g.P.Policy.seen l.initial.policy).scheduler) (g.P.Policy.seen l.initial.policy)

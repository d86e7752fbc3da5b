use Rattle.pool_core.proofs.Queueing.{AreQueued}
use Rattle.pool_core.proofs.domains.queue_units.Given as goal

abbrev pub invariant-loop-n : goal.invariant-loop-n
invariant-loop-n g l = AreQueued l.guests.granularity l.d.0 l.n l.count l.guests l.cores (g.P.Policy.seen l.initial.policy) (g.P.Policy.seen l.policy)

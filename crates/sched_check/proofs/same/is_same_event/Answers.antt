use Rattle.sched_check.proofs.SameLemmas.{same_events}
use Rattle.sched_check.proofs.same.is_same_event.Goals as goal

pub returns-clause-same : goal.returns-clause-same
returns-clause-same c = rw c.eq.ensures (same_events c.args.a c.args.b)

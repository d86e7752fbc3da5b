use Rattle.sched_null.proofs.Keeping.{kept_leave}
use Rattle.sched_null.proofs.kept.Kept.leave.Goals as goal

pub invariant_of-self : goal.invariant_of-self
invariant_of-self c = rw c.set_place.ensures (kept_leave c.args.core.0 _ _ c.self.invariant)

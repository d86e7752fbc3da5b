use Rattle.sched_null.proofs.Keeping.{kept_cleared}
use Rattle.sched_null.proofs.kept.Kept.clear.Goals as goal

pub invariant_of-self : goal.invariant_of-self
invariant_of-self c = rw c.release_all.ensures (kept_cleared _ _ c.self.invariant)

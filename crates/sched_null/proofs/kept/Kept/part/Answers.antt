use Rattle.std.specs.Prelude.{◌==◌}
use Rattle.sched_null.proofs.Keeping.{kept_released}
use Rattle.sched_null.proofs.kept.Kept.part.Goals as goal

pub invariant_of-self : goal.invariant_of-self
invariant_of-self c = rw c.release_domain.ensures (kept_released (λ u. u.dom.0 == c.args.d.0) _ _ c.self.invariant)

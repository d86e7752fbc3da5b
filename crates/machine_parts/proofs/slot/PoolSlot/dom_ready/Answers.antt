use Rattle.std.proofs.Common.{◌≡◌, ◌∙◌, subst}
use Rattle.sched_model.specs.Pool.{enabled_in}
use Rattle.sched_model.specs.declared.action.Action.TheVariants.{DomMoved}
use Rattle.pool_core.specs.Seen.{Seen}
use Rattle.machine_parts.proofs.Rooming.{same-value}
use Rattle.machine_parts.proofs.slot.PoolSlot.dom_ready.Goals as goal

pub returns-in-Some-clause-pool : goal.returns-in-Some-clause-pool
returns-in-Some-clause-pool c x at t =
    subst (λ (seen : Seen). c.dom_ready.result ≡ enabled_in seen.granularity t seen.pool (DomMoved c.args.d)) (c.deref.ensures ∙ same-value _ _ _ c.self.view_is c.in-Some.pool c.in-Some.is x at) (c.dom_ready.ensures t)

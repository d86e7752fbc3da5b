use Rattle.std.proofs.Common.{subst}
use Rattle.sched_ops.specs.Seen.{Seen}
use Rattle.sched_ops.specs.Conditions.{Keeps}
use Rattle.rtds_core.proofs.Calls.{keeps_of}
use Rattle.rtds_core.proofs.state.RtdsState.keeps.Goals as goal

pub returns-clause-keeps : goal.returns-clause-keeps
returns-clause-keeps c =
    let i = c.self.inside in
    subst (λ (s : Seen). Keeps s) c.self.view_is
    (keeps_of i.domains i.affinity i.queues i.masks i.alarms i.spare i.latest (record { order = c.law_order.ensures.order; ranks = c.law_order.ensures.ranks; units = c.law_order.ensures.units }) c.self.invariant)

use Rattle.std.proofs.Common.{◌++◌, subst}
use Rattle.arrival_queue.specs.Order.{EachUnitOnce}
use Rattle.rtds_queue.specs.Lists.{Lists}
use Rattle.rtds_queue.proofs.RtdsQueues.law_order.Goals as goal

pub returns-clause-units : goal.returns-clause-units
returns-clause-units c = subst (λ (q : Lists). EachUnitOnce (q.eligible ++ q.spent)) c.self.view_is c.law_order.ensures.units

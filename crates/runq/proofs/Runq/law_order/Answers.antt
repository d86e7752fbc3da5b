use Rattle.std.proofs.Common.{◌≡◌, List, ◌++◌, subst, ◌∙◌, ap}
use Rattle.std.proofs.lemmas.List.{append-nil}
use Rattle.arrival_queue.specs.Queues.{Queued}
use Rattle.arrival_queue.specs.Order.{EachUnitOnce}
use Rattle.runq.specs.Queue.{Queue}
use Rattle.runq.proofs.Runq.law_order.Goals as goal

pub returns-clause-units : goal.returns-clause-units
returns-clause-units c =
    let alone : c.self.inside.queue.sorted ++ c.self.inside.queue.others ≡ c.self.inside.queue.sorted =
    ap (λ (es : List Queued). c.self.inside.queue.sorted ++ es) c.self.invariant ∙ append-nil c.self.inside.queue.sorted
    in
    subst (λ (q : Queue). EachUnitOnce q.units) c.self.view_is (subst EachUnitOnce alone c.law_order.ensures.units)

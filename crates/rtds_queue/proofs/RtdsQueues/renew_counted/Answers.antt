use Rattle.std.proofs.Common.{◌≡◌, List, length, ap, arith}
use Rattle.arrival_queue.specs.Queues.{Queued, list_without}
use Rattle.arrival_queue.proofs.Lengths.{without-most}
use Rattle.rtds_queue.specs.Lists.{Lists}
use Rattle.rtds_queue.proofs.RtdsQueues.renew_counted.Goals as goal

pub returns-clause-cost : goal.returns-clause-cost
returns-clause-cost g c =
    let eligible : c.self.inside.queue.sorted ≡ c.args.self.now.eligible = ap (λ (q : Lists). q.eligible) c.self.view_is in
    let most = without-most c.args.u c.args.self.now.eligible in
    let same = ap (λ (es : List Queued). length (list_without c.args.u es)) eligible in
    omega (arith, most, same, c.move_counted.ensures.cost)

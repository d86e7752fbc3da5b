use Rattle.std.proofs.Common.{◌≡◌, List, length, ap, arith}
use Rattle.arrival_queue.specs.Queues.{Queued, list_without}
use Rattle.arrival_queue.proofs.Lengths.{without-less}
use Rattle.runq.specs.Queue.{Queue}
use Rattle.runq.proofs.Runq.rekey_counted.Goals as goal

pub returns-clause-cost : goal.returns-clause-cost
returns-clause-cost g c =
    let units : c.self.inside.queue.sorted ≡ c.args.self.now.units = ap (λ (q : Queue). q.units) c.self.view_is in
    let less = without-less c.args.u c.args.self.now.units c.requires in
    let same : length (list_without c.args.u c.self.inside.queue.sorted) ≡ length (list_without c.args.u c.args.self.now.units) =
    ap (λ (es : List Queued). length (list_without c.args.u es)) units
    in
    omega (arith, less, same, c.move_counted.ensures.cost)

use Rattle.std.proofs.Common.{map, ◌∙◌, ap}
use Rattle.arrival_queue.specs.Queues.{Queues, Queued}
use Rattle.arrival_queue.specs.Tables.{all_items}
use Rattle.arrival_queue.proofs.Changes.{units-shown}
use Rattle.arrival_queue.proofs.ArrivalQueue.ring.Goals as goal

pub returns-clause-sorted : goal.returns-clause-sorted
returns-clause-sorted c =
    units-shown c.self.inside.tables.keys.items c.self.inside.tables.arrivals.items (all_items c.self.inside.tables.ring) c.self.inside.tables.ring.first ∙ ap (λ (qs : Queues). map (λ (e : Queued). e.unit) qs.sorted) c.self.view_is

pub returns-clause-others : goal.returns-clause-others
returns-clause-others c =
    units-shown c.self.inside.tables.keys.items c.self.inside.tables.arrivals.items (all_items c.self.inside.tables.ring) c.self.inside.tables.ring.second ∙ ap (λ (qs : Queues). map (λ (e : Queued). e.unit) qs.others) c.self.view_is

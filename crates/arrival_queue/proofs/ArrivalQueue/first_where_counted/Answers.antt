use Rattle.std.proofs.Common.{Bool, sym, ◌∙◌, ap}
use Rattle.sched_base.specs.declared.UnitId.{UnitId}
use Rattle.arrival_queue.specs.Queues.{Queues}
use Rattle.arrival_queue.specs.Filters.{has_core_bit, first_that}
use Rattle.arrival_queue.specs.Tables.{all_items}
use Rattle.arrival_queue.proofs.Changes.{first_that-shown}
use Rattle.arrival_queue.proofs.ArrivalQueue.first_where_counted.Goals as goal

pub returns-clause-first : goal.returns-clause-first
returns-clause-first g c =
    let p : UnitId → Bool = λ u. has_core_bit c.args.allowed.0 u.dom.0 in
    c.first_where.ensures.unit
    ∙ sym (first_that-shown p c.self.inside.tables.keys.items c.self.inside.tables.arrivals.items (all_items c.self.inside.tables.ring) c.self.inside.tables.ring.first)
    ∙ ap (λ (qs : Queues). first_that p qs.sorted) c.self.view_is

use Rattle.std.proofs.Common.{◌≡◌, sym, ◌∙◌, ap}
use Rattle.std.specs.Prelude.{Option, Some, None, is_some}
use Rattle.unit_places.specs.Places.{number_of}
use Rattle.unit_ring.specs.declared.Node.{Node}
use Rattle.arrival_queue.specs.Queues.{Queues, holds}
use Rattle.arrival_queue.specs.Tables.{all_items, node_of, has_number}
use Rattle.arrival_queue.proofs.Changes.{holds-is, none_number}
use Rattle.arrival_queue.proofs.ArrivalQueue.has.Goals as goal
use Rattle.arrival_queue.proofs.Steps.{some_has}

pub returns : goal.returns
returns c =
    let number = number_of c.args.u in
    let items = all_items c.self.inside.tables.ring in
    let told : (o : Option Node) → node_of number items ≡ o → is_some o ≡ has_number number items =
    λ o. elim o as (λ (x : Option Node). node_of number items ≡ x → is_some x ≡ has_number number items) [
      | Some n ↦ λ is. sym (some_has number n items is)
      | None ↦ λ is. sym (none_number number items is)
    ]
    in
    c.is_some.ensures
    ∙ told c.find.result (sym c.find.ensures)
    ∙ sym (holds-is c.args.u c.self.inside.tables.ring c.self.inside.tables.keys.items c.self.inside.tables.arrivals.items)
    ∙ ap (λ (qs : Queues). holds qs c.args.u) c.self.view_is

use Rattle.std.proofs.Common.{◌≡◌, ◌<◌, ◌∙◌, false, length, set, sym, ap, subst, arith}
use Rattle.std.specs.Prelude.{Some}
use Rattle.unit_places.specs.Places.{number_of, unit_index}
use Rattle.unit_ring.specs.Lists as l
use Rattle.unit_ring.specs.Lists.{has_node, item, after_take}
use Rattle.arrival_queue.specs.Queues as q
use Rattle.arrival_queue.specs.Queues.{Queues}
use Rattle.arrival_queue.specs.Tables.{all_items, has_number}
use Rattle.arrival_queue.proofs.Changes.{seen_is, absent_is, append_seen}
use Rattle.arrival_queue.proofs.Steps.{same_queue, fresh_items, append_kept}
use Rattle.arrival_queue.specs.Order.{IsOrdered}
use Rattle.arrival_queue.proofs.Ordered.{ordered-appended}
use Rattle.arrival_queue.specs.WholeTables.{IsTables, seen_queues}
use Rattle.arrival_queue.proofs.ArrivalQueue.append_counted.Given.{Over}
use Rattle.arrival_queue.proofs.ArrivalQueue.append_counted.Goals as goal

absent : (g : Over) (c : goal.After-enter g) → has_number (number_of c.args.u) (all_items c.arrive-arrival.new.tables.ring) ≡ false
absent g c =
    absent_is c.args.u c.self.inside.tables.ring c.arrive-arrival.new.tables.ring c.self.inside.tables.keys.items c.self.inside.tables.arrivals.items c.args.self.now false c.arrive-arrival.ensures.ring c.self.view_is c.requires.absent

fresh : (g : Over) (c : goal.After-enter g) → has_node c.push_back-n.result.0 (all_items c.arrive-arrival.new.tables.ring) ≡ false
fresh g c = fresh_items c.arrive-arrival.new.tables.ring c.push_back-n.result.0 c.push_back-n.ensures.fresh

tables_are : (g : Over) (c : goal.After-enter g) → IsTables c.enter.new.tables
tables_are g c =
    let t = c.arrive-arrival.new.tables in
    let n = c.push_back-n.result in
    let next = c.arrive-arrival.ensures.next in
    let spare = ap (λ (r : l.Lists). r.spare) c.arrive-arrival.ensures.ring in
    let view = ap (λ (qs : Queues). qs.spare) c.self.view_is in
    let room = c.requires.room in
    same_queue (after_take (l.after_append t.ring 1 (item n.0 c.args.u))) c.enter.new.tables.ring (set t.nodes.items (unit_index c.args.u) (Some n)) c.enter.new.tables.nodes.items (set t.keys.items n.0 c.args.key) c.enter.new.tables.keys.items (set t.arrivals.items n.0 c.arrive-arrival.result) c.enter.new.tables.arrivals.items t.fresh.items c.enter.new.tables.fresh.items t.next c.enter.new.tables.next
    (c.enter.ensures.ring ∙ c.push_back-n.ensures.after) c.enter.ensures.nodes c.enter.ensures.keys c.enter.ensures.arrivals c.enter.ensures.fresh c.enter.ensures.next
    (append_kept t.ring t.nodes.items t.keys.items t.arrivals.items t.fresh.items t.next c.arrive-arrival.ensures.tables n.0 c.args.u c.args.key c.arrive-arrival.result (fresh g c) (absent g c) c.push_back-n.ensures.number c.requires.place (omega (arith, next)) (omega (arith, room, spare, view)))

after_is : (g : Over) (c : goal.After-enter g) → seen_queues c.enter.new.tables ≡ q.after_append c.args.self.now c.args.u c.args.key
after_is g c =
    let t = c.arrive-arrival.new.tables in
    let n = c.push_back-n.result in
    let number = c.push_back-n.ensures.number in
    let room = c.arrive-arrival.ensures.tables.room in
    let keys_room = c.arrive-arrival.ensures.tables.keys_room in
    let low : n.0 < length t.arrivals.items = omega (arith, number, room) in
    let low_key : n.0 < length t.keys.items = omega (arith, low, keys_room) in
    seen_is (after_take (l.after_append t.ring 1 (item n.0 c.args.u))) c.enter.new.tables.ring (set t.keys.items n.0 c.args.key) c.enter.new.tables.keys.items (set t.arrivals.items n.0 c.arrive-arrival.result) c.enter.new.tables.arrivals.items (c.enter.ensures.ring ∙ c.push_back-n.ensures.after) c.enter.ensures.keys c.enter.ensures.arrivals
    ∙ append_seen t.ring t.keys.items t.arrivals.items n.0 c.args.u c.args.key c.arrive-arrival.result c.arrive-arrival.ensures.last (fresh g c) low low_key
    ∙ ap (λ (qs : Queues). q.after_append qs c.args.u c.args.key) (c.arrive-arrival.ensures.seen ∙ c.self.view_is)

pub returns-clause-after : goal.returns-clause-after
returns-clause-after g c = after_is g c

pub invariant_of-self : goal.invariant_of-self
invariant_of-self g c = record {
  tables = tables_are g c;
  ordered =
      subst IsOrdered (sym (after_is g c))
      (ordered-appended c.args.self.now c.args.u c.args.key c.requires.absent (subst IsOrdered c.self.view_is c.self.invariant.ordered));
}

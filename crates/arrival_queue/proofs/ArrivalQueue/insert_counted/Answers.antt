use Rattle.std.proofs.Common.{◌≡◌, ℕ, ◌<◌, false, length, set, sym, ◌∙◌, ap, subst}
use Rattle.unit_ring.specs.Lists.{item}
use Rattle.arrival_queue.specs.Queues.{Queues, after_insert}
use Rattle.arrival_queue.specs.Tables.{all_items, comes_before, put_ring}
use Rattle.arrival_queue.proofs.Changes.{seen_is, absent_is, insert_seen}
use Rattle.arrival_queue.specs.Order.{IsOrdered}
use Rattle.arrival_queue.proofs.Ordered.{ordered-inserted}
use Rattle.arrival_queue.specs.WholeTables.{seen_queues}
use Rattle.arrival_queue.proofs.Back.{passes_on}
use Rattle.arrival_queue.proofs.ArrivalQueue.insert_counted.Given.{Over}
use Rattle.arrival_queue.proofs.ArrivalQueue.insert_counted.Goals as goal

pub put-requires-clause-absent : goal.put-requires-clause-absent
put-requires-clause-absent g c =
    absent_is c.args.u c.self.inside.tables.ring c.arrive-arrival.new.tables.ring c.self.inside.tables.keys.items c.self.inside.tables.arrivals.items c.args.self.now false c.arrive-arrival.ensures.ring c.self.view_is c.requires.absent

pub put-requires-clause-order : goal.put-requires-clause-order
put-requires-clause-order g c =
    let t = c.arrive-arrival.new.tables in
    passes_on t.keys.items t.arrivals.items (all_items t.ring) c.args.key c.arrive-arrival.result t.ring.first
    (subst IsOrdered (sym c.arrive-arrival.ensures.seen) c.self.invariant.ordered).sorted

after_is : (g : Over) (c : goal.After-put g) → seen_queues c.put.new.tables ≡ after_insert c.args.self.now c.args.u c.args.key
after_is g c =
    let low_key : c.put.result.0 < length c.arrive-arrival.new.tables.keys.items = subst (λ (k : ℕ). c.put.result.0 < k) (sym c.arrive-arrival.ensures.tables.keys_room) c.put.ensures.number in
    seen_is (put_ring (comes_before c.arrive-arrival.new.tables.keys.items c.arrive-arrival.new.tables.arrivals.items c.args.key c.arrive-arrival.result) (item c.put.result.0 c.args.u) c.arrive-arrival.new.tables.ring) c.put.new.tables.ring (set c.arrive-arrival.new.tables.keys.items c.put.result.0 c.args.key) c.put.new.tables.keys.items (set c.arrive-arrival.new.tables.arrivals.items c.put.result.0 c.arrive-arrival.result) c.put.new.tables.arrivals.items c.put.ensures.ring c.put.ensures.keys c.put.ensures.arrivals
    ∙ insert_seen c.arrive-arrival.new.tables.ring c.arrive-arrival.new.tables.keys.items c.arrive-arrival.new.tables.arrivals.items c.put.result.0 c.args.u c.args.key c.arrive-arrival.result c.arrive-arrival.ensures.last c.put.ensures.fresh c.put.ensures.number low_key
    ∙ ap (λ (qs : Queues). after_insert qs c.args.u c.args.key) (c.arrive-arrival.ensures.seen ∙ c.self.view_is)

pub returns-clause-after : goal.returns-clause-after
returns-clause-after g c = after_is g c

pub invariant_of-self : goal.invariant_of-self
invariant_of-self g c = record {
  tables = c.put.ensures.tables;
  ordered =
      subst IsOrdered (sym (after_is g c))
      (ordered-inserted c.args.self.now c.args.u c.args.key c.requires.absent (subst IsOrdered c.self.view_is c.self.invariant.ordered));
}

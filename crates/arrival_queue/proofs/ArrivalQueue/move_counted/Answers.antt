use Rattle.std.proofs.Common.{◌≡◌, ◌<◌, true, false, length, map, refl, sym, ◌∙◌, ap, subst, arith, rules}
use Rattle.unit_places.specs.Places.{number_of}
use Rattle.sched_base.proofs.Bools.{clash}
use Rattle.unit_ring.specs.Lists as l
use Rattle.unit_ring.specs.Lists.{Lists, item, after_give, after_take}
use Rattle.arrival_queue.specs.Queues as q
use Rattle.arrival_queue.specs.Queues.{Queues, Queued, holds, after_insert, after_remove, after_move}
use Rattle.arrival_queue.specs.Tables.{PassesOn, all_items, comes_before, has_number, shown_unit}
use Rattle.arrival_queue.proofs.Steps.{found}
use Rattle.arrival_queue.proofs.Changes.{absent_is, moved_seen, none_number, found_low, found_place, length-left}
use Rattle.arrival_queue.specs.Order.{IsOrdered}
use Rattle.arrival_queue.specs.WholeTables.{seen_queues as seen}
use Rattle.arrival_queue.proofs.Back.{passes_on, on-without, on_same}
use Rattle.arrival_queue.proofs.Ordered.{ordered-moved}
use Rattle.arrival_queue.proofs.ArrivalQueue.move_counted.Given.{Over}
use Rattle.arrival_queue.proofs.ArrivalQueue.move_counted.Goals as goal

pub arrival_of-arrival-requires : goal.arrival_of-arrival-requires
arrival_of-arrival-requires g c =
    (found_low (length c.self.inside.tables.arrivals.items) c.self.inside.tables.next c.self.inside.tables.arrivals.items c.self.inside.tables.ring c.args.u c.in-Some.n (found c.self.inside.tables.ring c.args.u c.in-Some.n c.self.invariant.tables.apart (sym c.find.ensures ∙ c.in-Some.is)) c.self.invariant.tables.tabled).0

pub put-requires-clause-place : goal.put-requires-clause-place
put-requires-clause-place g c =
    let t = c.self.inside.tables in
    let f = found t.ring c.args.u c.in-Some.n c.self.invariant.tables.apart (sym c.find.ensures ∙ c.in-Some.is) in
    let low : c.args.u.n < 256 = search rules in
    found_place (length t.arrivals.items) t.next t.arrivals.items t.ring c.args.u c.in-Some.n f c.self.invariant.tables.tabled low

pub put-requires-clause-arrived : goal.put-requires-clause-arrived
put-requires-clause-arrived g c =
    let low = (found_low (length c.self.inside.tables.arrivals.items) c.self.inside.tables.next c.self.inside.tables.arrivals.items c.self.inside.tables.ring c.args.u c.in-Some.n (found c.self.inside.tables.ring c.args.u c.in-Some.n c.self.invariant.tables.apart (sym c.find.ensures ∙ c.in-Some.is)) c.self.invariant.tables.tabled).1 in
    omega (arith, low, c.arrival_of-arrival.ensures, c.take.ensures.next)

pub put-requires-clause-order : goal.put-requires-clause-order
put-requires-clause-order g c =
    let t = c.self.inside.tables in
    let was : PassesOn (comes_before t.keys.items t.arrivals.items c.args.key c.arrival_of-arrival.result) t.ring.first = passes_on t.keys.items t.arrivals.items (all_items t.ring) c.args.key c.arrival_of-arrival.result t.ring.first c.self.invariant.ordered.sorted in
    on_same t.keys.items c.take.new.tables.keys.items t.arrivals.items c.take.new.tables.arrivals.items (after_give (l.lists_without t.ring c.in-Some.n.0)) c.take.new.tables.ring c.args.key c.arrival_of-arrival.result c.take.ensures.keys c.take.ensures.arrivals c.take.ensures.ring
    (on-without (comes_before t.keys.items t.arrivals.items c.args.key c.arrival_of-arrival.result) c.in-Some.n.0 t.ring.first was)

after_is : (g : Over) (c : goal.After-put g) → seen c.put.new.tables ≡ after_move c.args.self.now c.args.u c.args.key
after_is g c =
    moved_seen c.self.inside.tables.ring c.self.inside.tables.keys.items c.self.inside.tables.arrivals.items c.args.u c.in-Some.n (found c.self.inside.tables.ring c.args.u c.in-Some.n c.self.invariant.tables.apart (sym c.find.ensures ∙ c.in-Some.is))
    c.take.new.tables.ring c.put.new.tables.ring c.take.new.tables.nodes.items c.take.new.tables.keys.items c.put.new.tables.keys.items c.take.new.tables.arrivals.items c.put.new.tables.arrivals.items c.take.new.tables.fresh.items c.take.new.tables.next c.put.result.0 c.arrival_of-arrival.result c.args.key
    c.take.ensures.ring c.take.ensures.keys c.take.ensures.arrivals c.take.ensures.tables
    c.arrival_of-arrival.ensures c.put.ensures.fresh c.put.ensures.number c.put.ensures.ring c.put.ensures.keys c.put.ensures.arrivals
    ∙ ap (λ (qs : Queues). after_move qs c.args.u c.args.key) c.self.view_is

pub invariant_of-self : goal.invariant_of-self
invariant_of-self g c = record {
  tables = c.put.ensures.tables;
  ordered =
      subst IsOrdered (sym (after_is g c))
      (ordered-moved c.args.self.now c.args.u c.requires (subst IsOrdered c.self.view_is c.self.invariant.ordered) c.args.key);
}

pub returns-in-Some-clause-after : goal.returns-in-Some-clause-after
returns-in-Some-clause-after g c = after_is g c

pub returns-in-Some-clause-cost : goal.returns-in-Some-clause-cost
returns-in-Some-clause-cost g c =
    let left = length-left c.self.inside.tables.ring c.self.inside.tables.keys.items c.self.inside.tables.arrivals.items c.args.u c.in-Some.n (found c.self.inside.tables.ring c.args.u c.in-Some.n c.self.invariant.tables.apart (sym c.find.ensures ∙ c.in-Some.is)) in
    let kept : length c.take.new.tables.ring.first ≡ length (l.without_in c.in-Some.n.0 c.self.inside.tables.ring.first) = ap (λ (r : Lists). length r.first) c.take.ensures.ring in
    let seen : length (q.list_without c.args.u (map (shown_unit c.self.inside.tables.keys.items c.self.inside.tables.arrivals.items (all_items c.self.inside.tables.ring)) c.self.inside.tables.ring.first)) ≡ length (q.list_without c.args.u c.args.self.now.sorted) =
    ap (λ (qs : Queues). length (q.list_without c.args.u qs.sorted)) c.self.view_is
    in
    omega (arith, left, kept, seen, c.put.ensures.cost, c.take.ensures.cost)

pub returns-in-None-clause-after : goal.returns-in-None-clause-after
returns-in-None-clause-after g c =
    let none : has_number (number_of c.args.u) (all_items c.self.inside.tables.ring) ≡ false = none_number (number_of c.args.u) (all_items c.self.inside.tables.ring) (sym c.find.ensures ∙ c.in-None.is) in
    let here : has_number (number_of c.args.u) (all_items c.self.inside.tables.ring) ≡ true = absent_is c.args.u c.self.inside.tables.ring c.self.inside.tables.ring c.self.inside.tables.keys.items c.self.inside.tables.arrivals.items c.args.self.now true refl c.self.view_is c.requires in
    absurd (clash (has_number (number_of c.args.u) (all_items c.self.inside.tables.ring)) here none)

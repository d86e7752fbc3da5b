use Rattle.std.proofs.Common.{set, sym, ◌∙◌}
use Rattle.std.specs.Prelude.{Some}
use Rattle.unit_places.specs.Places.{unit_index}
use Rattle.unit_ring.specs.Lists.{item}
use Rattle.arrival_queue.specs.Tables.{comes_before, put_ring}
use Rattle.arrival_queue.proofs.Steps.{same_queue, fresh_items, found_live, found_ring, put_kept}
use Rattle.arrival_queue.proofs.tables.put.Goals as goal

pub put_at-n-requires-clause-live : goal.put_at-n-requires-clause-live
put_at-n-requires-clause-live g c = λ at is.
    found_live (comes_before c.args.tables.now.keys.items c.args.tables.now.arrivals.items c.args.key c.args.arrival) c.args.tables.now.ring at c.requires.tables.apart (sym c.place_of-at.ensures.place ∙ is)

pub returns-clause-fresh : goal.returns-clause-fresh
returns-clause-fresh g c = fresh_items c.args.tables.now.ring c.put_at-n.result.0 c.put_at-n.ensures.fresh

pub returns-clause-ring : goal.returns-clause-ring
returns-clause-ring g c =
    c.enter.ensures.ring ∙ c.put_at-n.ensures.ring ∙ found_ring (comes_before c.args.tables.now.keys.items c.args.tables.now.arrivals.items c.args.key c.args.arrival) (item c.put_at-n.result.0 c.args.u) c.args.tables.now.ring c.place_of-at.result c.requires.tables.apart c.place_of-at.ensures.place

pub returns-clause-tables : goal.returns-clause-tables
returns-clause-tables g c =
    same_queue (put_ring (comes_before c.args.tables.now.keys.items c.args.tables.now.arrivals.items c.args.key c.args.arrival) (item c.put_at-n.result.0 c.args.u) c.args.tables.now.ring) c.enter.new.tables.ring (set c.args.tables.now.nodes.items (unit_index c.args.u) (Some c.put_at-n.result)) c.enter.new.tables.nodes.items (set c.args.tables.now.keys.items c.put_at-n.result.0 c.args.key) c.enter.new.tables.keys.items (set c.args.tables.now.arrivals.items c.put_at-n.result.0 c.args.arrival) c.enter.new.tables.arrivals.items c.args.tables.now.fresh.items c.enter.new.tables.fresh.items c.args.tables.now.next c.enter.new.tables.next
    (returns-clause-ring g c) c.enter.ensures.nodes c.enter.ensures.keys c.enter.ensures.arrivals c.enter.ensures.fresh c.enter.ensures.next
    (put_kept c.args.tables.now.ring c.args.tables.now.nodes.items c.args.tables.now.keys.items c.args.tables.now.arrivals.items c.args.tables.now.fresh.items c.args.tables.now.next c.requires.tables c.put_at-n.result.0 c.args.u c.args.key c.args.arrival (fresh_items c.args.tables.now.ring c.put_at-n.result.0 c.put_at-n.ensures.fresh) c.requires.absent c.put_at-n.ensures.number c.requires.place c.requires.arrived c.requires.room (comes_before c.args.tables.now.keys.items c.args.tables.now.arrivals.items c.args.key c.args.arrival))

use Rattle.std.proofs.Common.{ℕ, ◌<◌, length, set, refl, ◌∙◌, ap, rules}
use Rattle.std.specs.Prelude.{None}
use Rattle.unit_places.specs.Places.{number_of, unit_index}
use Rattle.unit_ring.specs.Lists as l
use Rattle.unit_ring.specs.Lists.{Item, Lists, item, has_node, is_live, room_of, after_take, after_give, after_append}
use Rattle.arrival_queue.specs.Tables.{all_items, has_number}
use Rattle.arrival_queue.proofs.Changes.{found_place}
use Rattle.arrival_queue.proofs.Steps.{same_queue, found, take_kept}
use Rattle.arrival_queue.proofs.tables.take.Goals as goal

pub unlink-requires : goal.unlink-requires
unlink-requires g c = record { live = (found c.args.tables.now.ring c.args.u c.args.node c.requires.tables.apart c.requires.here).live }

pub index_of-requires : goal.index_of-requires
index_of-requires g c =
    let t = c.args.tables.now in
    let f = found t.ring c.args.u c.args.node c.requires.tables.apart c.requires.here in
    let low : c.args.u.n < 256 = search rules in
    found_place (length t.arrivals.items) t.next t.arrivals.items t.ring c.args.u c.args.node f c.requires.tables.tabled low

pub returns-clause-gone : goal.returns-clause-gone
returns-clause-gone g c =
    let f = found c.args.tables.now.ring c.args.u c.args.node c.requires.tables.apart c.requires.here in
    ap (λ (ring : Lists). has_number (number_of c.args.u) (all_items ring)) c.unlink.ensures.after
    ∙ ap (has_number (number_of c.args.u)) f.rest
    ∙ f.gone

pub returns-clause-tables : goal.returns-clause-tables
returns-clause-tables g c =
    let f = found c.args.tables.now.ring c.args.u c.args.node c.requires.tables.apart c.requires.here in
    same_queue (after_give (l.lists_without c.args.tables.now.ring c.args.node.0)) c.unlink.new.self (set c.args.tables.now.nodes.items (unit_index c.args.u) None) (set c.args.tables.now.nodes.items c.index_of.result None) c.args.tables.now.keys.items c.args.tables.now.keys.items c.args.tables.now.arrivals.items c.args.tables.now.arrivals.items c.args.tables.now.fresh.items c.args.tables.now.fresh.items c.args.tables.now.next c.args.tables.now.next
    c.unlink.ensures.after (ap (λ (k : ℕ). set c.args.tables.now.nodes.items k None) c.index_of.ensures.index) refl refl refl refl
    (take_kept c.args.tables.now.ring c.args.tables.now.nodes.items c.args.tables.now.keys.items c.args.tables.now.arrivals.items c.args.tables.now.fresh.items c.args.tables.now.next c.args.u c.args.node c.requires.tables f (found_place (length c.args.tables.now.arrivals.items) c.args.tables.now.next c.args.tables.now.arrivals.items c.args.tables.now.ring c.args.u c.args.node f c.requires.tables.tabled (search rules)))

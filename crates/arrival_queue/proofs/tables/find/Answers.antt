use Rattle.std.proofs.Common.{◌≡◌, ◌<◌, false, length, sym, ◌∙◌, rules}
use Rattle.unit_places.specs.Places.{number_of, has_unit_place}
use Rattle.arrival_queue.specs.Tables.{all_items}
use Rattle.arrival_queue.proofs.Changes.{no_place}
use Rattle.arrival_queue.proofs.Splits.{node_of-none}
use Rattle.arrival_queue.proofs.tables.find.Goals as goal

pub returns-else-has_place : goal.returns-else-has_place
returns-else-has_place c =
    let t = c.args.tables.now in
    let low : c.args.u.n < 256 = search rules in
    let none : has_unit_place c.args.u ≡ false = sym c.has_place.ensures ∙ c.if-has_place.false in
    sym (node_of-none (number_of c.args.u) (all_items t.ring) (no_place (length t.arrivals.items) t.next t.arrivals.items c.args.u (all_items t.ring) c.requires.tabled low none))

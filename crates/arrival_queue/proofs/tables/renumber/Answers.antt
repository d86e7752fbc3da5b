use Rattle.std.proofs.Common.{◌≡◌, ◌+◌, length, map, refl, ◌∙◌, ap, rules}
use Rattle.arrival_queue.specs.Tables.{count_below, queues_of}
use Rattle.arrival_queue.proofs.Numbering.{renumbered, seen_anew}
use Rattle.arrival_queue.proofs.Steps.{same_queue}
use Rattle.arrival_queue.proofs.tables.renumber.Goals as goal

pub returns-clause-tables : goal.returns-clause-tables
returns-clause-tables c =
    let anew : c.swap.new.x.items ≡ map (count_below c.args.tables.now.arrivals.items) c.args.tables.now.arrivals.items = search rules in
    let other : c.swap.new.y.items ≡ c.args.tables.now.arrivals.items = search rules in
    let next : c.len-count.result + 1 ≡ length c.args.tables.now.arrivals.items + 1 = search rules in
    same_queue c.args.tables.now.ring c.args.tables.now.ring c.args.tables.now.nodes.items c.args.tables.now.nodes.items c.args.tables.now.keys.items c.args.tables.now.keys.items (map (count_below c.args.tables.now.arrivals.items) c.args.tables.now.arrivals.items) c.swap.new.x.items c.args.tables.now.arrivals.items c.swap.new.y.items (length c.args.tables.now.arrivals.items + 1) (c.len-count.result + 1)
    refl refl refl anew other next (renumbered c.args.tables.now.ring c.args.tables.now.nodes.items c.args.tables.now.keys.items c.args.tables.now.arrivals.items c.args.tables.now.fresh.items c.args.tables.now.arrivals.items c.args.tables.now.next c.requires.tables refl)

pub returns-clause-seen : goal.returns-clause-seen
returns-clause-seen c =
    let anew : c.swap.new.x.items ≡ map (count_below c.args.tables.now.arrivals.items) c.args.tables.now.arrivals.items = search rules in
    ap (queues_of c.args.tables.now.ring c.args.tables.now.keys.items) anew ∙ seen_anew c.args.tables.now.ring c.args.tables.now.nodes.items c.args.tables.now.keys.items c.args.tables.now.arrivals.items c.args.tables.now.fresh.items c.args.tables.now.next c.requires.tables

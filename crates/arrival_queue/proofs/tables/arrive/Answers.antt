use Rattle.std.proofs.Common.{◌+◌, arith}
use Rattle.arrival_queue.proofs.Numbering.{with_later}
use Rattle.arrival_queue.proofs.tables.arrive.Goals as goal

pub returns-clause-tables : goal.returns-clause-tables
returns-clause-tables c =
    with_later c.make_ready.new.tables.ring c.make_ready.new.tables.nodes.items c.make_ready.new.tables.keys.items c.make_ready.new.tables.arrivals.items c.make_ready.new.tables.fresh.items c.make_ready.new.tables.next (c.make_ready.new.tables.next + 1) c.make_ready.ensures.tables (omega arith)

-- The tables of a queue as one value.
use Rattle.arrival_queue.specs.declared.tables.Tables.{Tables}
use Rattle.arrival_queue.specs.Queues.{Queues}
use Rattle.arrival_queue.specs.Order.{IsOrdered}
use Rattle.arrival_queue.specs.Tables.{IsQueue, queues_of}

-- they are those of their ring
abbrev pub IsTables : Tables → Type 0
IsTables t = IsQueue t.ring t.nodes.items t.keys.items t.arrivals.items t.fresh.items t.next

-- what callers see of them
abbrev pub seen_queues : Tables → Queues
seen_queues t = queues_of t.ring t.keys.items t.arrivals.items

-- they are those of their ring, and what callers see of them is in order
pub record IsWhole (t : Tables) : Type 0 where
  pub tables : IsTables t
  pub ordered : IsOrdered (seen_queues t)

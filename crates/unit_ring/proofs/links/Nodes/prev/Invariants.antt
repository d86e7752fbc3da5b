use Rattle.core.specs.Mem.Slots.{slots_ptr}
use Rattle.unit_ring.specs.Nodes.{number_at}
use Rattle.unit_ring.proofs.links.Nodes.prev.Given as goal

abbrev pub ghost-number : goal.ghost-number
ghost-number a = number_at (record { ptr = slots_ptr a.nodes.now }) a.at

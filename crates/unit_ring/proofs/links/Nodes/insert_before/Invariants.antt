use Rattle.core.specs.Mem.Slots.{slots_items}
use Rattle.unit_ring.specs.Chains.{link}
use Rattle.unit_ring.specs.Nodes.{links_of}
use Rattle.unit_ring.proofs.links.Nodes.insert_before.Given as goal

abbrev pub ghost-insert_before : goal.ghost-insert_before
ghost-insert_before a = link (links_of a.base (slots_items a.nodes.now)).before a.at

use Rattle.core.specs.Mem.Slots.{slots_items}
use Rattle.unit_ring.specs.Chains.{link}
use Rattle.unit_ring.specs.Nodes.{links_of}
use Rattle.unit_ring.proofs.links.Nodes.unlink.Given as goal

abbrev pub ghost-unlink : goal.ghost-unlink
ghost-unlink a = (link (links_of a.base (slots_items a.nodes.now)).before a.number, link (links_of a.base (slots_items a.nodes.now)).after a.number)

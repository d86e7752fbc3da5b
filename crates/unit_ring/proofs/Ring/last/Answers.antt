use Rattle.std.proofs.Common.{◌∙◌, ap}
use Rattle.unit_ring.specs.Lists.{Lists, last_in, list_of}
use Rattle.unit_ring.specs.Chains.{as_node}
use Rattle.unit_ring.proofs.Calls.{last_is, end_low, end_below}
use Rattle.unit_ring.proofs.Ring.last.Goals as goal

pub returns-clause-node : goal.returns-clause-node
returns-clause-node g c =
    c.node_at.ensures
    ∙ ap as_node (c.prev.ensures)
    ∙ last_is c.self.inside.nodes.after c.self.inside.nodes.before c.self.inside.nodes.units c.args.list c.self.invariant c.requires.list
    ∙ ap (λ (ls : Lists). last_in (list_of ls c.args.list)) c.self.view_is

pub prev-requires-clause-below : goal.prev-requires-clause-below
prev-requires-clause-below g c = end_low c.self.inside.nodes.after c.self.inside.nodes.before c.self.inside.nodes.units c.args.list c.self.invariant c.requires.list

pub prev-requires-clause-last : goal.prev-requires-clause-last
prev-requires-clause-last g c = end_below c.self.inside.nodes.after c.self.inside.nodes.before c.self.inside.nodes.units c.args.list c.self.invariant c.requires.list

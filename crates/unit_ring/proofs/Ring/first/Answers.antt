use Rattle.std.proofs.Common.{◌∙◌, ap}
use Rattle.unit_ring.specs.Lists.{Lists, first_in, list_of}
use Rattle.unit_ring.specs.Chains.{as_node}
use Rattle.unit_ring.proofs.Calls.{first_is, list_low, list_below}
use Rattle.unit_ring.proofs.Ring.first.Goals as goal

pub returns-clause-node : goal.returns-clause-node
returns-clause-node g c =
    c.node_at.ensures
    ∙ ap as_node (c.next.ensures)
    ∙ first_is c.self.inside.nodes.after c.self.inside.nodes.before c.self.inside.nodes.units c.args.list c.self.invariant c.requires.list
    ∙ ap (λ (ls : Lists). first_in (list_of ls c.args.list)) c.self.view_is

pub next-requires-clause-below : goal.next-requires-clause-below
next-requires-clause-below g c = list_low c.self.inside.nodes.after c.self.inside.nodes.before c.self.inside.nodes.units c.args.list c.self.invariant c.requires.list

pub next-requires-clause-next : goal.next-requires-clause-next
next-requires-clause-next g c = list_below c.self.inside.nodes.after c.self.inside.nodes.before c.self.inside.nodes.units c.args.list c.self.invariant c.requires.list

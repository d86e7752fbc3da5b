use Rattle.std.proofs.Common.{◌≡◌, true, sym, ◌∙◌, ap, subst}
use Rattle.unit_ring.specs.Lists.{Lists, is_live, prev_of}
use Rattle.unit_ring.specs.Chains.{lists_of, as_node}
use Rattle.unit_ring.proofs.Operations.{live_below}
use Rattle.unit_ring.proofs.Calls.{prev_is, live_prev}
use Rattle.unit_ring.proofs.Ring.prev.Goals as goal

pub prev-requires-clause-below : goal.prev-requires-clause-below
prev-requires-clause-below g c =
    live_below c.self.inside.nodes.after c.self.inside.nodes.before c.self.inside.nodes.units c.args.node.0 c.self.invariant (subst (λ (ls : Lists). is_live ls c.args.node.0 ≡ true) (sym c.self.view_is) c.requires.live)

pub prev-requires-clause-last : goal.prev-requires-clause-last
prev-requires-clause-last g c =
    live_prev c.self.inside.nodes.after c.self.inside.nodes.before c.self.inside.nodes.units c.args.node.0 c.self.invariant (subst (λ (ls : Lists). is_live ls c.args.node.0 ≡ true) (sym c.self.view_is) c.requires.live)

pub returns-clause-node : goal.returns-clause-node
returns-clause-node g c =
    let live : is_live (lists_of c.self.inside.nodes.after c.self.inside.nodes.units) c.args.node.0 ≡ true = subst (λ (ls : Lists). is_live ls c.args.node.0 ≡ true) (sym c.self.view_is) c.requires.live in
    c.node_at.ensures
    ∙ ap as_node (c.prev.ensures)
    ∙ prev_is c.self.inside.nodes.after c.self.inside.nodes.before c.self.inside.nodes.units c.args.node.0 c.self.invariant live
    ∙ ap (λ (ls : Lists). prev_of ls c.args.node.0) c.self.view_is

use Rattle.std.proofs.Common.{◌≡◌, true, sym, ◌∙◌, ap, subst}
use Rattle.unit_ring.specs.Lists.{Lists, is_live, next_of}
use Rattle.unit_ring.specs.Chains.{lists_of, as_node}
use Rattle.unit_ring.proofs.Operations.{live_below}
use Rattle.unit_ring.proofs.Calls.{next_is, live_next}
use Rattle.unit_ring.proofs.Ring.next.Goals as goal

pub next-requires-clause-below : goal.next-requires-clause-below
next-requires-clause-below g c =
    live_below c.self.inside.nodes.after c.self.inside.nodes.before c.self.inside.nodes.units c.args.n.0 c.self.invariant (subst (λ (ls : Lists). is_live ls c.args.n.0 ≡ true) (sym c.self.view_is) c.requires.live)

pub next-requires-clause-next : goal.next-requires-clause-next
next-requires-clause-next g c =
    live_next c.self.inside.nodes.after c.self.inside.nodes.before c.self.inside.nodes.units c.args.n.0 c.self.invariant (subst (λ (ls : Lists). is_live ls c.args.n.0 ≡ true) (sym c.self.view_is) c.requires.live)

pub returns-clause-node : goal.returns-clause-node
returns-clause-node g c =
    let live : is_live (lists_of c.self.inside.nodes.after c.self.inside.nodes.units) c.args.n.0 ≡ true = subst (λ (ls : Lists). is_live ls c.args.n.0 ≡ true) (sym c.self.view_is) c.requires.live in
    c.node_at.ensures
    ∙ ap as_node (c.next.ensures)
    ∙ next_is c.self.inside.nodes.after c.self.inside.nodes.before c.self.inside.nodes.units c.args.n.0 c.self.invariant live
    ∙ ap (λ (ls : Lists). next_of ls c.args.n.0) c.self.view_is

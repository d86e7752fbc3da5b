use Rattle.std.proofs.Common.{◌≡◌, true, sym, subst, arith}
use Rattle.unit_ring.specs.Lists.{Lists, is_live}
use Rattle.unit_ring.specs.Chains.{lists_of}
use Rattle.unit_ring.proofs.Operations.{live_below}
use Rattle.unit_ring.proofs.Calls.{read_unit}
use Rattle.unit_ring.proofs.Ring.unit.Goals as goal

pub unit-requires : goal.unit-requires
unit-requires c =
    let live : is_live (lists_of c.self.inside.nodes.after c.self.inside.nodes.units) c.args.n.0 ≡ true = subst (λ (ls : Lists). is_live ls c.args.n.0 ≡ true) (sym c.self.view_is) c.requires.live in
    let low = live_below c.self.inside.nodes.after c.self.inside.nodes.before c.self.inside.nodes.units c.args.n.0 c.self.invariant live in
    omega (arith, low, c.self.invariant.places)

pub returns : goal.returns
returns c =
    read_unit c.self.inside.nodes.after c.self.inside.nodes.before c.self.inside.nodes.units c.args.self.now c.args.n.0 c.unit.result c.self.invariant c.self.view_is c.requires.live c.unit.ensures

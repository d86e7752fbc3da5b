use Rattle.std.proofs.Common.{◌≡◌, true, refl, sym, ◌∙◌, ap, subst, arith}
use Rattle.unit_ring.specs.Lists.{Lists, item, is_live, unit_of, after_append, lists_without as lists_without}
use Rattle.unit_ring.specs.Chains.{IsRing, lists_of}
use Rattle.unit_ring.proofs.Operations.{live_has, live_high}
use Rattle.unit_ring.proofs.Calls.{shifted, chain_has_end, carried}
use Rattle.unit_ring.proofs.Ring.shift.Given.{Over}
use Rattle.unit_ring.proofs.Ring.shift.Goals as goal

pub shift-requires-clause-number : goal.shift-requires-clause-number
shift-requires-clause-number g c =
    let live : is_live (lists_of c.self.inside.nodes.after c.self.inside.nodes.units) c.args.n.0 ≡ true = subst (λ (ls : Lists). is_live ls c.args.n.0 ≡ true) (sym c.self.view_is) c.requires.live in
    live_has c.self.inside.nodes.after c.self.inside.nodes.before c.self.inside.nodes.units c.args.n.0 c.self.invariant live

pub shift-requires-clause-inner : goal.shift-requires-clause-inner
shift-requires-clause-inner g c =
    let live : is_live (lists_of c.self.inside.nodes.after c.self.inside.nodes.units) c.args.n.0 ≡ true = subst (λ (ls : Lists). is_live ls c.args.n.0 ≡ true) (sym c.self.view_is) c.requires.live in
    let high = live_high c.self.inside.nodes.after c.self.inside.nodes.before c.self.inside.nodes.units c.args.n.0 c.self.invariant live in
    λ e. omega (arith, e, high)

pub shift-requires-clause-place : goal.shift-requires-clause-place
shift-requires-clause-place g c =
    chain_has_end c.self.inside.nodes.after c.self.inside.nodes.before c.self.inside.nodes.units c.args.list c.self.invariant c.requires.list

pub shift-requires-clause-apart : goal.shift-requires-clause-apart
shift-requires-clause-apart g c =
    let live : is_live (lists_of c.self.inside.nodes.after c.self.inside.nodes.units) c.args.n.0 ≡ true = subst (λ (ls : Lists). is_live ls c.args.n.0 ≡ true) (sym c.self.view_is) c.requires.live in
    let high = live_high c.self.inside.nodes.after c.self.inside.nodes.before c.self.inside.nodes.units c.args.n.0 c.self.invariant live in
    let either = c.requires.list in
    λ e. omega (arith, e, high, either)

-- the ring after the move, and what is seen of it
made : (g : Over) (c : goal.After-shift g) → IsRing c.shift.new.self.after c.shift.new.self.before c.shift.new.self.units
    × (lists_of c.shift.new.self.after c.shift.new.self.units ≡ after_append (lists_without (lists_of c.self.inside.nodes.after c.self.inside.nodes.units) c.args.n.0) c.args.list (item c.args.n.0 (unit_of (lists_of c.self.inside.nodes.after c.self.inside.nodes.units) c.args.n.0)))
made g c =
    let live : is_live (lists_of c.self.inside.nodes.after c.self.inside.nodes.units) c.args.n.0 ≡ true = subst (λ (ls : Lists). is_live ls c.args.n.0 ≡ true) (sym c.self.view_is) c.requires.live in
    carried c.shift.new.self.after c.shift.new.self.before c.shift.new.self.after c.shift.new.self.before c.self.inside.nodes.units c.shift.new.self.units
    (after_append (lists_without (lists_of c.self.inside.nodes.after c.self.inside.nodes.units) c.args.n.0) c.args.list (item c.args.n.0 (unit_of (lists_of c.self.inside.nodes.after c.self.inside.nodes.units) c.args.n.0)))
    (shifted c.self.inside.nodes.after c.self.inside.nodes.before c.shift.new.self.after c.shift.new.self.before c.self.inside.nodes.units c.args.n.0 c.self.invariant live c.shift.ensures.whole c.shift.ensures.size c.args.list c.requires.list c.shift.ensures.moved)
    refl refl c.shift.ensures.units

pub invariant_of-self : goal.invariant_of-self
invariant_of-self g c = (made g c).0

pub returns-clause-after : goal.returns-clause-after
returns-clause-after g c =
    (made g c).1
    ∙ ap (λ (ls : Lists). after_append (lists_without ls c.args.n.0) c.args.list (item c.args.n.0 (unit_of ls c.args.n.0))) c.self.view_is

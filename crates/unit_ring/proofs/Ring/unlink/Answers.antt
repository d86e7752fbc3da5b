use Rattle.std.proofs.Common.{◌≡◌, List, true, length, refl, sym, ◌∙◌, ap, subst, arith}
use Rattle.sched_base.specs.declared.UnitId.{UnitId}
use Rattle.unit_ring.specs.Lists.{Lists, is_live, after_give, lists_without as lists_without}
use Rattle.unit_ring.specs.Chains.{IsRing, lists_of, unit_at}
use Rattle.unit_ring.proofs.Operations.{live_has, live_high, live_below, chain_has_3}
use Rattle.unit_ring.proofs.Calls.{unlinked, read_unit, carried}
use Rattle.unit_ring.proofs.Ring.unlink.Given.{Over}
use Rattle.unit_ring.proofs.Ring.unlink.Goals as goal

pub shift-requires-clause-number : goal.shift-requires-clause-number
shift-requires-clause-number g c =
    let live : is_live (lists_of c.self.inside.nodes.after c.self.inside.nodes.units) c.args.n.0 ≡ true = subst (λ (ls : Lists). is_live ls c.args.n.0 ≡ true) (sym c.self.view_is) c.requires.live in
    live_has c.self.inside.nodes.after c.self.inside.nodes.before c.self.inside.nodes.units c.args.n.0 c.self.invariant live

pub shift-requires-clause-inner : goal.shift-requires-clause-inner
shift-requires-clause-inner g c =
    let live : is_live (lists_of c.self.inside.nodes.after c.self.inside.nodes.units) c.args.n.0 ≡ true = subst (λ (ls : Lists). is_live ls c.args.n.0 ≡ true) (sym c.self.view_is) c.requires.live in
    let high = live_high c.self.inside.nodes.after c.self.inside.nodes.before c.self.inside.nodes.units c.args.n.0 c.self.invariant live in
    λ e. omega (arith, e, high)

pub shift-requires-clause-place : goal.shift-requires-clause-place
shift-requires-clause-place g c =
    chain_has_3 c.self.inside.nodes.after c.self.inside.nodes.before c.self.inside.nodes.units c.self.invariant

pub shift-requires-clause-apart : goal.shift-requires-clause-apart
shift-requires-clause-apart g c =
    let live : is_live (lists_of c.self.inside.nodes.after c.self.inside.nodes.units) c.args.n.0 ≡ true = subst (λ (ls : Lists). is_live ls c.args.n.0 ≡ true) (sym c.self.view_is) c.requires.live in
    let high = live_high c.self.inside.nodes.after c.self.inside.nodes.before c.self.inside.nodes.units c.args.n.0 c.self.invariant live in
    λ e. omega (arith, e, high)

pub unit-requires : goal.unit-requires
unit-requires g c =
    let live : is_live (lists_of c.self.inside.nodes.after c.self.inside.nodes.units) c.args.n.0 ≡ true = subst (λ (ls : Lists). is_live ls c.args.n.0 ≡ true) (sym c.self.view_is) c.requires.live in
    let low = live_below c.self.inside.nodes.after c.self.inside.nodes.before c.self.inside.nodes.units c.args.n.0 c.self.invariant live in
    let same : length c.shift.new.self.units ≡ length c.self.inside.nodes.units = ap (λ (us : List UnitId). length us) c.shift.ensures.units in
    omega (arith, low, same, c.self.invariant.places)

-- the ring after the move, and what is seen of it
made : (g : Over) (c : goal.After-unit g) → IsRing c.shift.new.self.after c.shift.new.self.before c.shift.new.self.units
    × (lists_of c.shift.new.self.after c.shift.new.self.units ≡ after_give (lists_without (lists_of c.self.inside.nodes.after c.self.inside.nodes.units) c.args.n.0))
made g c =
    let live : is_live (lists_of c.self.inside.nodes.after c.self.inside.nodes.units) c.args.n.0 ≡ true = subst (λ (ls : Lists). is_live ls c.args.n.0 ≡ true) (sym c.self.view_is) c.requires.live in
    carried c.shift.new.self.after c.shift.new.self.before c.shift.new.self.after c.shift.new.self.before c.self.inside.nodes.units c.shift.new.self.units
    (after_give (lists_without (lists_of c.self.inside.nodes.after c.self.inside.nodes.units) c.args.n.0))
    (unlinked c.self.inside.nodes.after c.self.inside.nodes.before c.shift.new.self.after c.shift.new.self.before c.self.inside.nodes.units c.args.n.0 c.self.invariant live c.shift.ensures.whole c.shift.ensures.size c.shift.ensures.moved)
    refl refl c.shift.ensures.units

pub invariant_of-self : goal.invariant_of-self
invariant_of-self g c = (made g c).0

pub returns-clause-after : goal.returns-clause-after
returns-clause-after g c =
    (made g c).1
    ∙ ap (λ (ls : Lists). after_give (lists_without ls c.args.n.0)) c.self.view_is

pub returns-clause-unit : goal.returns-clause-unit
returns-clause-unit g c =
    read_unit c.self.inside.nodes.after c.self.inside.nodes.before c.self.inside.nodes.units c.args.self.now c.args.n.0 c.unit.result c.self.invariant c.self.view_is c.requires.live (c.unit.ensures ∙ ap (λ (us : List UnitId). unit_at us c.args.n.0) c.shift.ensures.units)

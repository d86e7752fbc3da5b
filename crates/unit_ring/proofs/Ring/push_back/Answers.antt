use Rattle.std.proofs.Common.{◌≡◌, List, false, length, refl, ◌∙◌, ap, subst, arith, set}
use Rattle.sched_base.specs.declared.UnitId.{UnitId}
use Rattle.unit_ring.specs.Lists.{Lists, item, is_live, after_take, after_append}
use Rattle.unit_ring.specs.Chains.{IsRing, lists_of}
use Rattle.unit_ring.proofs.Operations.{FirstFree, taken_node, chain_has_free}
use Rattle.unit_ring.proofs.Calls.{free_high, free_below, free_fresh, pushed, chain_has_end, free_number, carried, free_low, free_next}
use Rattle.unit_ring.proofs.Ring.push_back.Given.{Over}
use Rattle.unit_ring.proofs.Ring.push_back.Goals as goal

pub shift-requires-clause-number : goal.shift-requires-clause-number
shift-requires-clause-number g c =
    let first : FirstFree c.self.inside.nodes.after c.next-n.result = taken_node c.self.inside.nodes.after c.self.inside.nodes.before c.self.inside.nodes.units c.args.self.now c.self.inside.nodes.after c.next-n.result c.self.invariant c.self.view_is c.requires.room refl c.next-n.ensures in
    chain_has_free c.self.inside.nodes.after c.self.inside.nodes.before c.self.inside.nodes.units c.next-n.result c.self.invariant first.has

pub shift-requires-clause-inner : goal.shift-requires-clause-inner
shift-requires-clause-inner g c =
    let first : FirstFree c.self.inside.nodes.after c.next-n.result = taken_node c.self.inside.nodes.after c.self.inside.nodes.before c.self.inside.nodes.units c.args.self.now c.self.inside.nodes.after c.next-n.result c.self.invariant c.self.view_is c.requires.room refl c.next-n.ensures in
    let high = free_high c.self.inside.nodes.after c.self.inside.nodes.before c.self.inside.nodes.units c.next-n.result c.self.invariant first in
    λ e. omega (arith, e, high)

pub set_unit-requires : goal.set_unit-requires
set_unit-requires g c =
    let first : FirstFree c.self.inside.nodes.after c.next-n.result = taken_node c.self.inside.nodes.after c.self.inside.nodes.before c.self.inside.nodes.units c.args.self.now c.self.inside.nodes.after c.next-n.result c.self.invariant c.self.view_is c.requires.room refl c.next-n.ensures in
    let low = free_below c.self.inside.nodes.after c.self.inside.nodes.before c.self.inside.nodes.units c.next-n.result c.self.invariant first in
    let same : length c.shift.new.self.units ≡ length c.self.inside.nodes.units = ap (λ (us : List UnitId). length us) c.shift.ensures.units in
    omega (arith, low, same, c.self.invariant.places)

pub shift-requires-clause-place : goal.shift-requires-clause-place
shift-requires-clause-place g c =
    chain_has_end c.self.inside.nodes.after c.self.inside.nodes.before c.self.inside.nodes.units c.args.list c.self.invariant c.requires.list

pub shift-requires-clause-apart : goal.shift-requires-clause-apart
shift-requires-clause-apart g c =
    let first : FirstFree c.self.inside.nodes.after c.next-n.result = taken_node c.self.inside.nodes.after c.self.inside.nodes.before c.self.inside.nodes.units c.args.self.now c.self.inside.nodes.after c.next-n.result c.self.invariant c.self.view_is c.requires.room refl c.next-n.ensures in
    let high = free_high c.self.inside.nodes.after c.self.inside.nodes.before c.self.inside.nodes.units c.next-n.result c.self.invariant first in
    let either = c.requires.list in
    λ e. omega (arith, e, high, either)

-- the ring after the unit is written, and what is seen of it
made : (g : Over) (c : goal.After-set_unit g) → IsRing c.set_unit.new.self.after c.set_unit.new.self.before c.set_unit.new.self.units
    × (lists_of c.set_unit.new.self.after c.set_unit.new.self.units ≡ after_take (after_append (lists_of c.self.inside.nodes.after c.self.inside.nodes.units) c.args.list (item c.next-n.result c.args.u)))
made g c =
    let first : FirstFree c.self.inside.nodes.after c.next-n.result = taken_node c.self.inside.nodes.after c.self.inside.nodes.before c.self.inside.nodes.units c.args.self.now c.self.inside.nodes.after c.next-n.result c.self.invariant c.self.view_is c.requires.room refl c.next-n.ensures in
    carried c.shift.new.self.after c.shift.new.self.before c.set_unit.new.self.after c.set_unit.new.self.before (set c.self.inside.nodes.units c.next-n.result c.args.u) c.set_unit.new.self.units
    (after_take (after_append (lists_of c.self.inside.nodes.after c.self.inside.nodes.units) c.args.list (item c.next-n.result c.args.u)))
    (pushed c.self.inside.nodes.after c.self.inside.nodes.before c.shift.new.self.after c.shift.new.self.before c.self.inside.nodes.units c.next-n.result c.args.u c.self.invariant first c.shift.ensures.whole c.shift.ensures.size c.args.list c.requires.list c.shift.ensures.moved)
    c.set_unit.ensures.after c.set_unit.ensures.before (c.set_unit.ensures.units ∙ ap (λ (us : List UnitId). set us c.next-n.result c.args.u) c.shift.ensures.units)

pub invariant_of-self : goal.invariant_of-self
invariant_of-self g c = (made g c).0

pub returns-clause-after : goal.returns-clause-after
returns-clause-after g c =
    (made g c).1
    ∙ ap (λ (ls : Lists). after_take (after_append ls c.args.list (item c.next-n.result c.args.u))) c.self.view_is

pub returns-clause-fresh : goal.returns-clause-fresh
returns-clause-fresh g c =
    let first : FirstFree c.self.inside.nodes.after c.next-n.result = taken_node c.self.inside.nodes.after c.self.inside.nodes.before c.self.inside.nodes.units c.args.self.now c.self.inside.nodes.after c.next-n.result c.self.invariant c.self.view_is c.requires.room refl c.next-n.ensures in
    subst (λ (ls : Lists). is_live ls c.next-n.result ≡ false) c.self.view_is (free_fresh c.self.inside.nodes.after c.self.inside.nodes.before c.self.inside.nodes.units c.next-n.result c.self.invariant first)

pub returns-clause-number : goal.returns-clause-number
returns-clause-number g c =
    let first : FirstFree c.self.inside.nodes.after c.next-n.result = taken_node c.self.inside.nodes.after c.self.inside.nodes.before c.self.inside.nodes.units c.args.self.now c.self.inside.nodes.after c.next-n.result c.self.invariant c.self.view_is c.requires.room refl c.next-n.ensures in
    free_number c.self.inside.nodes.after c.self.inside.nodes.before c.self.inside.nodes.units c.args.self.now c.next-n.result c.self.invariant c.self.view_is first

pub next-n-requires-clause-below : goal.next-n-requires-clause-below
next-n-requires-clause-below g c = free_low c.self.inside.nodes.after c.self.inside.nodes.before c.self.inside.nodes.units c.self.invariant

pub next-n-requires-clause-next : goal.next-n-requires-clause-next
next-n-requires-clause-next g c = free_next c.self.inside.nodes.after c.self.inside.nodes.before c.self.inside.nodes.units c.self.invariant

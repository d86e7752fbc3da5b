use Rattle.std.proofs.Common.{refl, sym, ◌∙◌, ap}
use Rattle.core.specs.Mem.Slots.{slots_items}
use Rattle.unit_ring.specs.Chains.{after_without, before_without}
use Rattle.unit_ring.specs.Nodes.{Links, links_of}
use Rattle.unit_ring.proofs.Linked.{Seen, unlinked}
use Rattle.unit_ring.proofs.links.Nodes.unlink.Goals as goal

-- what is seen of the row after the call
made : (c : goal.After-unlink) → let old = links_of c.self.inside.base (slots_items c.self.inside.row) in
    Seen c.unlink.new.nodes c.self.inside.base (after_without old.after old.before c.args.number) (before_without old.after old.before c.args.number) old.units
made c =
    unlinked c.self.inside.row c.unlink.new.nodes c.self.inside.base c.args.number _ _ c.self.invariant.0 refl refl
    c.unlink.ensures.items c.unlink.ensures.places c.unlink.ensures.full

pub invariant_of-self : goal.invariant_of-self
invariant_of-self c = (
  (made c).row_is,
  c.self.invariant.1 ∙ sym c.unlink.ensures.places.start,
  c.self.invariant.2 ∙ sym c.unlink.ensures.places.count,
  c.self.invariant.3,
)

pub returns-clause-after : goal.returns-clause-after
returns-clause-after c = (made c).after ∙ ap (λ (ls : Links). after_without ls.after ls.before c.args.number) c.self.view_is

pub returns-clause-before : goal.returns-clause-before
returns-clause-before c = (made c).before ∙ ap (λ (ls : Links). before_without ls.after ls.before c.args.number) c.self.view_is

pub returns-clause-units : goal.returns-clause-units
returns-clause-units c = (made c).units ∙ ap (λ (ls : Links). ls.units) c.self.view_is

use Rattle.std.proofs.Common.{refl, sym, ◌∙◌, ap}
use Rattle.core.specs.Mem.Slots.{slots_items}
use Rattle.unit_ring.specs.Chains.{after_with, before_with}
use Rattle.unit_ring.specs.Nodes.{Links, links_of}
use Rattle.unit_ring.proofs.Linked.{Seen, inserted}
use Rattle.unit_ring.proofs.links.Nodes.insert_before.Goals as goal

-- what is seen of the row after the call
made : (c : goal.After-insert_before) → let old = links_of c.self.inside.base (slots_items c.self.inside.row) in
    Seen c.insert_before.new.nodes c.self.inside.base (after_with old.after old.before c.args.at c.args.number) (before_with old.after old.before c.args.at c.args.number) old.units
made c =
    inserted c.self.inside.row c.insert_before.new.nodes c.self.inside.base c.args.at c.args.number _ c.self.invariant.0 refl
    c.insert_before.ensures.items c.insert_before.ensures.places c.insert_before.ensures.full

pub invariant_of-self : goal.invariant_of-self
invariant_of-self c = (
  (made c).row_is,
  c.self.invariant.1 ∙ sym c.insert_before.ensures.places.start,
  c.self.invariant.2 ∙ sym c.insert_before.ensures.places.count,
  c.self.invariant.3,
)

pub returns-clause-after : goal.returns-clause-after
returns-clause-after c = (made c).after ∙ ap (λ (ls : Links). after_with ls.after ls.before c.args.at c.args.number) c.self.view_is

pub returns-clause-before : goal.returns-clause-before
returns-clause-before c = (made c).before ∙ ap (λ (ls : Links). before_with ls.after ls.before c.args.at c.args.number) c.self.view_is

pub returns-clause-units : goal.returns-clause-units
returns-clause-units c = (made c).units ∙ ap (λ (ls : Links). ls.units) c.self.view_is

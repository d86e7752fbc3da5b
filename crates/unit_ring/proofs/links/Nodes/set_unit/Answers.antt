use Rattle.std.proofs.Common.{◌≡◌, List, length, set, ◌∙◌, ap, arith}
use Rattle.core.specs.Mem.Slots.{slots_items}
use Rattle.std.proofs.lemmas.List.{length-map}
use Rattle.unit_ring.specs.declared.nodes.NodeRecord.{NodeRecord}
use Rattle.unit_ring.specs.Nodes.{Links, links_of, numbered_node}
use Rattle.unit_ring.proofs.Linked.{read_node, unit-keeps_after, unit-keeps_before, unit-written}
use Rattle.unit_ring.proofs.links.Nodes.set_unit.Goals as goal

-- the node that was read
read : (c : goal.After-put) → c.get-node.result.now ≡ numbered_node (slots_items c.self.inside.row) c.args.number
read c =
    let seen : length (links_of c.self.inside.base (slots_items c.self.inside.row)).units ≡ length c.args.self.now.units = ap (λ (ls : Links). length ls.units) c.self.view_is in
    let long = length-map (slots_items c.self.inside.row) (λ (x : NodeRecord). x.unit) in
    read_node (slots_items c.self.inside.row) c.args.number c.get-node.result.now (omega (arith, c.requires, seen, long)) c.get-node.ensures

pub returns-clause-after : goal.returns-clause-after
returns-clause-after c =
    ap (λ (xs : List NodeRecord). (links_of c.self.inside.base xs).after) c.put.ensures.items
    ∙ unit-keeps_after c.self.inside.base (slots_items c.self.inside.row) c.args.number c.get-node.result.now c.args.u (read c)
    ∙ ap (λ (ls : Links). ls.after) c.self.view_is

pub returns-clause-before : goal.returns-clause-before
returns-clause-before c =
    ap (λ (xs : List NodeRecord). (links_of c.self.inside.base xs).before) c.put.ensures.items
    ∙ unit-keeps_before c.self.inside.base (slots_items c.self.inside.row) c.args.number c.get-node.result.now c.args.u (read c)
    ∙ ap (λ (ls : Links). ls.before) c.self.view_is

pub returns-clause-units : goal.returns-clause-units
returns-clause-units c =
    ap (λ (xs : List NodeRecord). (links_of c.self.inside.base xs).units) c.put.ensures.items
    ∙ unit-written c.self.inside.base (slots_items c.self.inside.row) c.args.number c.get-node.result.now c.args.u (read c)
    ∙ ap (λ (ls : Links). set ls.units c.args.number c.args.u) c.self.view_is

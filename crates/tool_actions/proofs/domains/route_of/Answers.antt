use Rattle.std.proofs.Common.{◌≡◌, sym, ap, ◌∙◌}
use Rattle.std.specs.Prelude.{Some, option_map}
use Rattle.cpupool.specs.Steps.{move_of}
use Rattle.cpupool.specs.declared.moves.Move.{Move}
use Rattle.cpupool.specs.declared.moves.Move.TheVariants as move
use Rattle.machine_parts.specs.Places.{state_of}
use Rattle.machine_parts.proofs.AtPlaces.{no-number, number-of}
use Rattle.tool_actions.proofs.DomainMoves.{domain-told, home-told, route-is}
use Rattle.tool_actions.proofs.domains.route_of.Goals as goal
use Rattle.tool_actions.proofs.domains.route_of.Goals.{in_default-via-in-Some+in_default, in_default-via-in_default}

pub unreachable-requires : goal.unreachable-requires
unreachable-requires c =
    let told = domain-told c.args.trail.now c.args.tool.now c.args.t.0 c.args.d.0 c.requires in
    let way = c.moving.ensures.way in
    elim c.in_default.branch [
      | in_default-via-in-Some+in_default x ↦ absurd (cc)
      | in_default-via-in_default x ↦ absurd (cc)
    ]

pub unreachable-requires-in_default-home_of_domain : goal.unreachable-requires-in_default-home_of_domain
unreachable-requires-in_default-home_of_domain c =
    let w = c.args.trail.now in
    home-told w c.args.tool.now c.args.t.0 c.args.d.0 c.requires (no-number _ (sym (c.home_of_domain.ensures w.input (state_of w) c.requires.known) ∙ c.in_default-home_of_domain.is))

pub returns-clause-moves : goal.returns-clause-moves
returns-clause-moves c =
    let w = c.args.trail.now in
    let told : option_map (move_of c.args.tool.now.part) c.args.tool.now.part.under_way ≡ Some (move.Dom c.in-Some-Dom.field-0-0 c.in-Some-Dom.to c.in-Some-Dom.kind) =
    sym c.moving.ensures.way ∙ c.in-Some-Dom.is ∙ ap (λ (x : Move). Some x) c.in-Some-Dom.field-0-is in
    route-is w c.args.tool.now c.args.t.0 c.args.d c.requires c.in-Some-Dom.field-0-0 c.in-Some.from c.in-Some-Dom.to c.in-Some-Dom.kind told
    (number-of _ c.in-Some.from (sym (c.home_of_domain.ensures w.input (state_of w) c.requires.known) ∙ c.in-Some.is))

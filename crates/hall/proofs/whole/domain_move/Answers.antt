use Rattle.std.proofs.Common.{◌∙◌, refl, sym, ap}
use Rattle.std.specs.Prelude.{Some}
use Rattle.cpupool.specs.declared.moves.Move.{Move}
use Rattle.machine_parts.specs.Places.{state_of}
use Rattle.hall.proofs.Handing.{domain-handed, domain-moves}
use Rattle.hall.proofs.whole.domain_move.Goals as goal
use Rattle.hall.proofs.whole.domain_move.Goals.{in_default-via-in-Some+in_default, in_default-via-in_default}

pub unreachable-requires : goal.unreachable-requires
unreachable-requires c =
    let told = domain-moves c.args.trail.now c.requires.goes c.args.tool.now c.requires.known c.args.d.0 c.requires.enabled in
    let way = c.moving.ensures.way in
    elim c.in_default.branch [
      | in_default-via-in-Some+in_default x ↦ absurd (cc)
      | in_default-via-in_default x ↦ absurd (cc)
    ]

pub returns : goal.returns
returns c =
    let w = c.args.trail.now in
    domain-handed w c.requires.goes c.args.tool.now c.requires.known c.args.d.0 c.requires.enabled c.home_of_domain.result (c.home_of_domain.ensures w.input (state_of w) c.requires.known)
    c.in-Some-Dom.field-0-0 c.in-Some-Dom.to c.in-Some-Dom.field-0-2 (sym c.moving.ensures.way ∙ c.in-Some-Dom.is ∙ ap (λ (x : Move). Some x) c.in-Some-Dom.field-0-is)
    c.lock_of-from.result _ c.lock_of-from.ensures refl

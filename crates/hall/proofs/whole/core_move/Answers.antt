use Rattle.std.proofs.Common.{◌∙◌, sym, ap}
use Rattle.std.specs.Prelude.{Some}
use Rattle.cpupool.specs.declared.moves.Move.{Move}
use Rattle.machine_parts.specs.Places.{state_of}
use Rattle.tool_actions.proofs.CoreMoves.{move-told, way-told}
use Rattle.hall.proofs.Handing.{core-handed, core-told}
use Rattle.hall.proofs.whole.core_move.Goals as goal
use Rattle.hall.proofs.whole.core_move.Goals.{in_default-via-in-Some+in_default, in_default-via-in_default}

pub unreachable-requires : goal.unreachable-requires
unreachable-requires c =
    let part = c.args.tool.now.part in
    let there = core-told c.args.trail.now c.requires.goes c.args.tool.now c.requires.known c.args.r.0 c.requires.enabled in
    let told = move-told part part.under_way c.args.r.0 there.0 c.moving.result there.1 c.moving.ensures.way in
    elim c.in_default.branch [
      | in_default-via-in-Some+in_default x ↦ absurd (cc)
      | in_default-via-in_default x ↦ absurd (cc)
    ]

pub returns : goal.returns
returns c =
    let w = c.args.trail.now in
    let part = c.args.tool.now.part in
    let there = core-told w c.requires.goes c.args.tool.now c.requires.known c.args.r.0 c.requires.enabled in
    let way = way-told part part.under_way c.args.r.0 there.0 c.in-Some-Res.field-0-0 c.in-Some-Res.to there.1 (sym c.moving.ensures.way ∙ c.in-Some-Res.is ∙ ap (λ (x : Move). Some x) c.in-Some-Res.field-0-is) in
    core-handed w c.requires.goes c.args.tool.now c.requires.known c.args.r.0 c.requires.enabled c.home_of_core.result c.in-Some-Res.to (c.home_of_core.ensures w.input (state_of w) c.requires.known) way
    c.lock_of-from.result c.lock_of-to.result c.lock_of-from.ensures c.lock_of-to.ensures

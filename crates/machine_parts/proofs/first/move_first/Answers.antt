use Rattle.std.proofs.Common.{◌≡◌, sym, ap, ◌∙◌}
use Rattle.std.specs.Prelude.{Option, None, Some}
use Rattle.sched_base.specs.declared.PoolId.{PoolId}
use Rattle.journal_core.specs.Parts.{core_to, state_under_way}
use Rattle.cpupool.specs.Tool.{Tool}
use Rattle.cpupool.specs.declared.moves.Move.{Move}
use Rattle.cpupool.specs.declared.moves.Move.TheVariants as move
use Rattle.machine_parts.specs.Places.{state_of}
use Rattle.machine_parts.proofs.Moving.{core-way, joining-first, leaving-first}
use Rattle.machine_parts.proofs.first.move_first.Goals as goal

-- a core that leaves its pool
pub returns-in-Some-Res-default-None : goal.returns-in-Some-Res-default-None
returns-in-Some-Res-default-None c =
    let w = c.args.trail.now in
    let part = c.args.tool.now.part in
    let r = c.in-Some-Res-default-None.r in
    let told = sym c.moving.ensures.way ∙ c.in-Some-Res-default-None.is ∙ ap (λ (x : Move). Some x) c.in-Some-Res-default-None.field-0-is ∙ ap (λ (to : Option PoolId). Some (move.Res r to)) c.in-Some-Res-default-None.field-0-1-is in
    let way : state_under_way (state_of w) ≡ Some (core_to r.0 None) = ap (λ (tool : Tool). tool.part.under_way) c.requires.parts.known ∙ core-way part part.under_way r None told in
    c.if_ready.ensures ∙ leaving-first w c.requires.parts.goes c.args.t.0 r.0 c.core_ready.result way c.core_ready.ensures

-- a core that joins one
pub returns-in-Some-Res-default-Some : goal.returns-in-Some-Res-default-Some
returns-in-Some-Res-default-Some c =
    let w = c.args.trail.now in
    let part = c.args.tool.now.part in
    let r = c.in-Some-Res-default-Some.r in
    let i = c.in-Some-Res-default-Some.field-0-1-0 in
    let told = sym c.moving.ensures.way ∙ c.in-Some-Res-default-Some.is ∙ ap (λ (x : Move). Some x) c.in-Some-Res-default-Some.field-0-is ∙ ap (λ (to : Option PoolId). Some (move.Res r to)) c.in-Some-Res-default-Some.field-0-1-is in
    let way : state_under_way (state_of w) ≡ Some (core_to r.0 (Some i.0)) = ap (λ (tool : Tool). tool.part.under_way) c.requires.parts.known ∙ core-way part part.under_way r (Some i) told in
    c.if_ready-in-Some-Res-default-Some.ensures ∙ joining-first w c.requires.parts.goes c.args.t.0 r.0 i.0 c.free_ready.result way (c.free_ready.ensures.state w.input (state_of w) c.requires.parts.known)

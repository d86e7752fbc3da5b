use Rattle.std.proofs.Common.{◌≡◌, ◌∙◌, ◌+◌, ap, arith, suc, sym}
use Rattle.std.specs.Prelude.{Err, Some, slice_get}
use Rattle.std.proofs.lemmas.Option.{slice_get_within}
use Rattle.cpupool.specs.Tool.{Tool}
use Rattle.sched_model.specs.Machine.{line_verdict}
use Rattle.machine_parts.specs.Places.{state_of}
use Rattle.tool_actions.proofs.Carried.{answer-is, parts-refused, parts-told, told-answer}
use Rattle.tool_actions.proofs.Spared.{few-commands, is-idle, spares-on}
use Rattle.tool_actions.proofs.commands.command_at.Goals as goal

pub refuse-requires-clause-idle : goal.refuse-requires-clause-idle
refuse-requires-clause-idle c = (let w = c.args.trail.now in is-idle w.input (state_of w) (state_of w).now c.requires.enabled c.args.tool.now c.requires.parts.known)

pub overflow_add-result : goal.overflow_add-result
overflow_add-result c =
    let few = few-commands c.args.trail.now c.args.slots.now c.args.tool.now c.requires.parts in
    let low = slice_get_within c.args.tool.now.commands c.args.line c.command.result.now c.command.ensures in
    omega (arith, few, low)

pub overflow_add-result-in-Ok : goal.overflow_add-result-in-Ok
overflow_add-result-in-Ok c =
    let few = few-commands c.args.trail.now c.args.slots.now c.args.tool.now c.requires.parts in
    let low = slice_get_within c.args.tool.now.commands c.args.line c.command.result.now c.command.ensures in
    omega (arith, few, low)

pub returns-in-Err-clause-parts : goal.returns-in-Err-clause-parts
returns-in-Err-clause-parts c =
    let w = c.args.trail.now in
    let m = w.input in
    let s = state_of w in
    let line = c.command.result.now in
    let next : slice_get m.work.commands s.next_command ≡ Some line = ap (λ (x : Tool). slice_get x.commands s.next_command) c.requires.parts.known ∙ ap (slice_get c.args.tool.now.commands) (sym c.requires.number) ∙ c.command.ensures in
    let says : line_verdict m s line ≡ Err c.in-Err.fault = sym c.verdict_of.ensures ∙ c.in-Err.is in
    let one : c.args.line + 1 ≡ suc s.next_command = (let number = c.requires.number in omega (arith, number)) in
    parts-told w c.args.t.0 _ c.args.slots.now c.refuse.new.self c.requires.now (told-answer m s line next _ one _ (sym (answer-is m s line (Err c.in-Err.fault) says)))
    (parts-refused w c.args.slots.now c.args.tool.now c.requires.parts c.requires.enabled line next c.in-Err.fault c.refuse.new.self says (c.refuse.ensures.state m s s.now line c.in-Err.fault c.requires.parts.known says))

pub returns-in-Err-clause-spares : goal.returns-in-Err-clause-spares
returns-in-Err-clause-spares c =
    spares-on c.args.trail.now.input c.args.t.0 c.args.tool.now c.refuse.new.self c.args.spares.now c.requires.spares (ap (λ (x : Tool). x.part.pools) c.refuse.ensures.next) (ap (λ (x : Tool). x.part.next_command) c.refuse.ensures.next)

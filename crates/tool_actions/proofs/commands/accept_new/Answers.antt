use Rattle.std.proofs.Common.{◌∙◌, sym}
use Rattle.machine_parts.specs.Places.{state_of}
use Rattle.tool_actions.proofs.Spared.{is-idle, is-left, new-below, new-empty, new-read, new-spare, parts-new, spares-new}
use Rattle.tool_actions.proofs.commands.accept_new.Goals as goal

pub bounds-slots-pool : goal.bounds-slots-pool
bounds-slots-pool c = new-below c.args.trail.now c.args.slots.now c.args.tool.now c.requires.parts c.requires.enabled c.args.plan.now c.requires.accepted c.args.pool c.args.kind c.requires.makes

pub create-requires-clause-empty : goal.create-requires-clause-empty
create-requires-clause-empty c =
    sym (new-read c.args.trail.now c.args.slots.now c.args.tool.now c.requires.parts c.requires.enabled c.args.plan.now c.requires.accepted c.args.pool c.args.kind c.requires.makes c.index-slots-pool.result)
    ∙ new-empty c.args.trail.now c.args.slots.now c.args.tool.now c.requires.parts c.requires.enabled c.args.plan.now c.requires.accepted c.args.pool c.args.kind c.requires.makes

pub create-requires-clause-some : goal.create-requires-clause-some
create-requires-clause-some c =
    new-spare c.args.trail.now c.args.slots.now c.args.tool.now c.requires.parts c.requires.enabled c.args.plan.now c.requires.accepted c.args.pool c.args.kind c.requires.makes c.args.spares.now c.requires.spares

pub advance-requires-clause-left : goal.advance-requires-clause-left
advance-requires-clause-left c = (let w = c.args.trail.now in is-left w.input (state_of w) (state_of w).now c.requires.enabled c.args.tool.now c.requires.parts.known)

pub advance-requires-clause-idle : goal.advance-requires-clause-idle
advance-requires-clause-idle c = (let w = c.args.trail.now in is-idle w.input (state_of w) (state_of w).now c.requires.enabled c.args.tool.now c.requires.parts.known)

pub returns-clause-parts : goal.returns-clause-parts
returns-clause-parts c =
    let w = c.args.trail.now in
    parts-new w c.args.slots.now c.args.tool.now c.requires.parts c.requires.enabled c.args.plan.now c.requires.accepted c.args.pool c.args.kind c.requires.makes c.args.spares.now c.requires.spares
    c.create.new.spares c.create.new.slot c.create.ensures c.advance.new.self
    (c.advance.ensures w.input (state_of w) (state_of w).now c.requires.accepted.line c.requires.parts.known c.requires.accepted.accepted)

pub returns-clause-spares : goal.returns-clause-spares
returns-clause-spares c =
    let w = c.args.trail.now in
    spares-new w c.args.slots.now c.args.tool.now c.requires.parts c.requires.enabled c.args.plan.now c.requires.accepted c.args.pool c.args.kind c.requires.makes c.args.spares.now c.requires.spares
    c.create.new.spares c.create.new.slot c.create.ensures c.advance.new.self
    (c.advance.ensures w.input (state_of w) (state_of w).now c.requires.accepted.line c.requires.parts.known c.requires.accepted.accepted)

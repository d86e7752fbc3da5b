use Rattle.std.proofs.Common.{subst}
use Rattle.std.specs.Prelude.{Option}
use Rattle.std.specs.Option.{ForSome, IsSome}
use Rattle.pool_core.specs.Seen.{Seen}
use Rattle.machine_parts.specs.Places.{state_of}
use Rattle.tool_actions.specs.MadePools.{MayGo}
use Rattle.tool_actions.proofs.Spared.{gone-below, gone-may, gone-read, gone-slot, is-idle, is-left, parts-gone, spares-gone}
use Rattle.tool_actions.proofs.Stalling.{stands-read}
use Rattle.tool_actions.proofs.commands.accept_end.Goals as goal

pub bounds-slots-pool : goal.bounds-slots-pool
bounds-slots-pool c = gone-below c.args.trail.now c.args.slots.now c.args.tool.now c.requires.parts c.requires.enabled c.args.plan.now c.requires.accepted c.args.pool c.requires.destroys

pub destroy-requires-clause-stands : goal.destroy-requires-clause-stands
destroy-requires-clause-stands c =
    stands-read c.args.trail.now c.args.slots.now c.requires.parts.stand c.args.pool.0 c.index-slots-pool.result (gone-below c.args.trail.now c.args.slots.now c.args.tool.now c.requires.parts c.requires.enabled c.args.plan.now c.requires.accepted c.args.pool c.requires.destroys)

pub destroy-requires-clause-some : goal.destroy-requires-clause-some
destroy-requires-clause-some c =
    subst (λ (o : Option Seen). IsSome o) (gone-read c.args.trail.now c.args.slots.now c.args.tool.now c.requires.parts c.requires.enabled c.args.plan.now c.requires.accepted c.args.pool c.requires.destroys c.index-slots-pool.result)
    (gone-slot c.args.trail.now c.args.slots.now c.args.tool.now c.requires.parts c.requires.enabled c.args.plan.now c.requires.accepted c.args.pool c.requires.destroys)

pub destroy-requires-clause-goes_out : goal.destroy-requires-clause-goes_out
destroy-requires-clause-goes_out c =
    subst (λ (o : Option Seen). ForSome o (MayGo c.kind_of-kind.result c.args.spares.now)) (gone-read c.args.trail.now c.args.slots.now c.args.tool.now c.requires.parts c.requires.enabled c.args.plan.now c.requires.accepted c.args.pool c.requires.destroys c.index-slots-pool.result)
    (gone-may c.args.trail.now c.args.slots.now c.args.tool.now c.requires.parts c.requires.enabled c.args.plan.now c.requires.accepted c.args.pool c.requires.destroys c.kind_of-kind.result c.kind_of-kind.ensures c.args.spares.now c.requires.spares)

pub advance-requires-clause-left : goal.advance-requires-clause-left
advance-requires-clause-left c = (let w = c.args.trail.now in is-left w.input (state_of w) (state_of w).now c.requires.enabled c.args.tool.now c.requires.parts.known)

pub advance-requires-clause-idle : goal.advance-requires-clause-idle
advance-requires-clause-idle c = (let w = c.args.trail.now in is-idle w.input (state_of w) (state_of w).now c.requires.enabled c.args.tool.now c.requires.parts.known)

pub returns-clause-parts : goal.returns-clause-parts
returns-clause-parts c =
    let w = c.args.trail.now in
    parts-gone w c.args.slots.now c.args.tool.now c.requires.parts c.requires.enabled c.args.plan.now c.requires.accepted c.args.pool c.requires.destroys c.kind_of-kind.result c.kind_of-kind.ensures c.args.spares.now c.requires.spares
    c.destroy.new.spares c.destroy.new.slot c.destroy.ensures c.advance.new.self
    (c.advance.ensures w.input (state_of w) (state_of w).now c.requires.accepted.line c.requires.parts.known c.requires.accepted.accepted)

pub returns-clause-spares : goal.returns-clause-spares
returns-clause-spares c =
    let w = c.args.trail.now in
    spares-gone w c.args.slots.now c.args.tool.now c.requires.parts c.requires.enabled c.args.plan.now c.requires.accepted c.args.pool c.requires.destroys c.kind_of-kind.result c.kind_of-kind.ensures c.args.spares.now c.requires.spares
    c.destroy.new.spares c.destroy.new.slot c.destroy.ensures c.advance.new.self
    (c.advance.ensures w.input (state_of w) (state_of w).now c.requires.accepted.line c.requires.parts.known c.requires.accepted.accepted)

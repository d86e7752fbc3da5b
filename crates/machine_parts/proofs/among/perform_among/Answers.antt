use Rattle.std.proofs.Common.{◌<◌, length, subst, arith, get_or-set_other}
use Rattle.std.specs.Prelude.{None}
use Rattle.machine_parts.specs.Places.{StandsAt}
use Rattle.machine_parts.proofs.Stepping.{few-pools, stand-done, state-done, step-done}
use Rattle.machine_parts.proofs.among.perform_among.Goals as goal
use Rattle.sched_laws.proofs.Lists.{same_read}

pub bounds-slots-place : goal.bounds-slots-place
bounds-slots-place c =
    let few = few-pools c.args.trail.now c.requires.goes c.args.t.0 c.requires.now c.args.action c.requires.own c.requires.enabled c.args.place c.requires.home in
    let count = c.requires.stand.count in
    omega (arith, few, count)

pub perform_into-requires-clause-stands : goal.perform_into-requires-clause-stands
perform_into-requires-clause-stands c =
    let few = few-pools c.args.trail.now c.requires.goes c.args.t.0 c.requires.now c.args.action c.requires.own c.requires.enabled c.args.place c.requires.home in
    let low : c.args.place < length c.args.slots.now = (let count = c.requires.stand.count in omega (arith, few, count)) in
    subst (StandsAt c.args.trail.now c.args.place) (same_read c.args.slots.now c.args.place None c.index-slots-place.result low) (c.requires.stand.each c.args.place few)

pub returns-clause-state : goal.returns-clause-state
returns-clause-state c = state-done c.args.trail.now c.requires.goes c.args.t.0 c.requires.now c.args.action c.requires.own c.requires.enabled c.args.place c.requires.home c.perform_into.new.out c.perform_into.ensures.event

pub returns-clause-step : goal.returns-clause-step
returns-clause-step c = step-done c.args.trail.now c.requires.goes c.args.t.0 c.requires.now c.args.action c.requires.own c.requires.enabled c.args.place c.requires.home c.perform_into.new.out c.perform_into.ensures.event

pub returns-clause-stand : goal.returns-clause-stand
returns-clause-stand c = stand-done c.args.trail.now c.requires.goes c.args.t.0 c.requires.now c.args.action c.requires.own c.requires.enabled c.args.place c.requires.home c.perform_into.new.out c.perform_into.ensures.event c.args.slots.now c.perform_into.new.self c.requires.stand c.perform_into.ensures.stands

pub returns-clause-others : goal.returns-clause-others
returns-clause-others c k other = get_or-set_other c.args.slots.now c.args.place k c.perform_into.new.self None other

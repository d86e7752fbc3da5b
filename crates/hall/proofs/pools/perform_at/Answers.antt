use Rattle.std.proofs.Common.{ap, ◌∙◌}
use Rattle.machine_parts.specs.Told.{told_of}
use Rattle.hall.proofs.AtPool.{decider-here, kept-here, next-here, others-after, placed-here, pool-after, stands-here, time-here}
use Rattle.hall.proofs.pools.perform_at.Goals as goal

pub perform-event-requires-clause-now : goal.perform-event-requires-clause-now
perform-event-requires-clause-now c = time-here c.args.set.now c.args.book c.args.seat.now c.requires.may.has c.requires.may.current c.requires.may.goes c.args.t.0 c.requires.may.now c.of-trail.result (c.of-trail.ensures ∙ ap told_of c.get.ensures)

pub perform-event-requires-clause-stands : goal.perform-event-requires-clause-stands
perform-event-requires-clause-stands c = stands-here c.args.set.now c.args.book c.args.seat.now c.requires.may.has c.requires.may.current c.requires.may.goes c.args.place c.args.slot.now c.requires.number c.requires.knows c.of-trail.result (c.of-trail.ensures ∙ ap told_of c.get.ensures)

pub add_and_put_back-requires-clause-next : goal.add_and_put_back-requires-clause-next
add_and_put_back-requires-clause-next c = next-here c.args.set.now c.args.book c.args.seat.now c.requires.may.has c.requires.may.current c.requires.may.goes c.args.action c.requires.own c.requires.may.enabled c.args.place c.requires.home c.requires.number (c.requires.knows.known.0, c.requires.knows.known.1) c.args.t.0 c.requires.may.now c.perform-event.result c.of-trail.result (c.of-trail.ensures ∙ ap told_of c.get.ensures) c.perform-event.ensures.event

pub add_and_put_back-requires-clause-kept : goal.add_and_put_back-requires-clause-kept
add_and_put_back-requires-clause-kept c = kept-here c.args.set.now c.args.book c.args.seat.now c.requires.may.has c.requires.may.current c.requires.may.goes c.args.action c.requires.own c.requires.may.enabled c.args.place c.requires.home c.requires.number (c.requires.knows.known.0, c.requires.knows.known.1) c.args.t.0 c.requires.may.now c.perform-event.result c.of-trail.result (c.of-trail.ensures ∙ ap told_of c.get.ensures) c.perform-event.ensures.event

pub add_and_put_back-requires-clause-placed : goal.add_and_put_back-requires-clause-placed
add_and_put_back-requires-clause-placed c = placed-here c.args.set.now c.args.book c.args.seat.now c.requires.may.has c.requires.may.current c.requires.may.goes c.args.action c.requires.own c.requires.may.enabled c.args.place c.requires.home c.requires.number (c.requires.knows.known.0, c.requires.knows.known.1) c.args.t.0 c.requires.may.now c.perform-event.result c.of-trail.result (c.of-trail.ensures ∙ ap told_of c.get.ensures) c.perform-event.ensures.event

pub add_and_put_back-requires-clause-core : goal.add_and_put_back-requires-clause-core
add_and_put_back-requires-clause-core c = decider-here c.args.set.now c.args.book c.args.seat.now c.requires.may.has c.requires.may.current c.requires.may.goes c.args.action c.requires.own c.requires.may.enabled c.args.place c.requires.home c.requires.number (c.requires.knows.known.0, c.requires.knows.known.1) c.args.t.0 c.requires.may.now c.perform-event.result c.of-trail.result (c.of-trail.ensures ∙ ap told_of c.get.ensures) c.perform-event.ensures.event

pub returns-clause-knows : goal.returns-clause-knows
returns-clause-knows c = pool-after c.args.set.now c.args.book c.args.seat.now c.requires.may.has c.requires.may.current c.requires.may.goes c.args.action c.requires.own c.requires.may.enabled c.args.place c.requires.home c.requires.number (c.requires.knows.known.0, c.requires.knows.known.1) c.args.t.0 c.requires.may.now c.perform-event.result c.of-trail.result (c.of-trail.ensures ∙ ap told_of c.get.ensures) c.perform-event.ensures.event c.add_and_put_back.new.seat.view c.add_and_put_back.ensures.entered.input c.add_and_put_back.ensures.knows c.perform-event.new.self c.perform-event.ensures.stands

pub returns-clause-others : goal.returns-clause-others
returns-clause-others c = others-after c.args.set.now c.args.book c.args.seat.now c.requires.may.has c.requires.may.current c.requires.may.goes c.args.action c.requires.own c.requires.may.enabled c.args.place c.requires.home c.requires.number (c.requires.knows.known.0, c.requires.knows.known.1) c.args.t.0 c.requires.may.now c.perform-event.result c.of-trail.result (c.of-trail.ensures ∙ ap told_of c.get.ensures) c.perform-event.ensures.event c.add_and_put_back.new.seat.view c.add_and_put_back.ensures.entered.input c.add_and_put_back.ensures.knows

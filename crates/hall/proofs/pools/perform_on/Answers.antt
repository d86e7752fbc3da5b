use Rattle.std.proofs.Common.{◌++◌, ◌∷◌, [], ap, sym, ◌∙◌, arith}
use Rattle.sched_model.specs.Machine.{event_of}
use Rattle.machine_parts.specs.Places.{state_of}
use Rattle.machine_parts.specs.Told.{Told, told_of}
use Rattle.hall.proofs.AtPool.{decider-here, kept-here, next-here, others-after, placed-here, pool-after, stands-here, time-here}
use Rattle.hall.proofs.Holds.{named-after}
use Rattle.hall.proofs.pools.perform_on.Goals as goal

pub perform-event-requires-clause-now : goal.perform-event-requires-clause-now
perform-event-requires-clause-now c = time-here c.args.set.now c.args.book.now c.args.seat.now c.requires.may.has c.requires.may.current c.requires.may.goes c.args.t.0 c.requires.may.now c.of-trail.result (c.of-trail.ensures ∙ ap told_of c.get.ensures)

pub perform-event-requires-clause-stands : goal.perform-event-requires-clause-stands
perform-event-requires-clause-stands c = stands-here c.args.set.now c.args.book.now c.args.seat.now c.requires.may.has c.requires.may.current c.requires.may.goes c.args.place c.args.slot.now c.requires.number c.requires.knows c.of-trail.result (c.of-trail.ensures ∙ ap told_of c.get.ensures)

pub add_and_keep-requires-clause-next : goal.add_and_keep-requires-clause-next
add_and_keep-requires-clause-next c = next-here c.args.set.now c.args.book.now c.args.seat.now c.requires.may.has c.requires.may.current c.requires.may.goes c.args.action c.requires.own c.requires.may.enabled c.args.place c.requires.home c.requires.number (c.requires.knows.known.0, c.requires.knows.known.1) c.args.t.0 c.requires.may.now c.perform-event.result c.of-trail.result (c.of-trail.ensures ∙ ap told_of c.get.ensures) c.perform-event.ensures.event

pub add_and_keep-requires-clause-kept : goal.add_and_keep-requires-clause-kept
add_and_keep-requires-clause-kept c = kept-here c.args.set.now c.args.book.now c.args.seat.now c.requires.may.has c.requires.may.current c.requires.may.goes c.args.action c.requires.own c.requires.may.enabled c.args.place c.requires.home c.requires.number (c.requires.knows.known.0, c.requires.knows.known.1) c.args.t.0 c.requires.may.now c.perform-event.result c.of-trail.result (c.of-trail.ensures ∙ ap told_of c.get.ensures) c.perform-event.ensures.event

pub add_and_keep-requires-clause-placed : goal.add_and_keep-requires-clause-placed
add_and_keep-requires-clause-placed c = placed-here c.args.set.now c.args.book.now c.args.seat.now c.requires.may.has c.requires.may.current c.requires.may.goes c.args.action c.requires.own c.requires.may.enabled c.args.place c.requires.home c.requires.number (c.requires.knows.known.0, c.requires.knows.known.1) c.args.t.0 c.requires.may.now c.perform-event.result c.of-trail.result (c.of-trail.ensures ∙ ap told_of c.get.ensures) c.perform-event.ensures.event

pub add_and_keep-requires-clause-core : goal.add_and_keep-requires-clause-core
add_and_keep-requires-clause-core c = decider-here c.args.set.now c.args.book.now c.args.seat.now c.requires.may.has c.requires.may.current c.requires.may.goes c.args.action c.requires.own c.requires.may.enabled c.args.place c.requires.home c.requires.number (c.requires.knows.known.0, c.requires.knows.known.1) c.args.t.0 c.requires.may.now c.perform-event.result c.of-trail.result (c.of-trail.ensures ∙ ap told_of c.get.ensures) c.perform-event.ensures.event

pub returns : goal.returns
returns c =
    let on = c.add_and_keep.ensures in
    let h = c.args.book.now.history ++ record { at = c.args.t; event = c.perform-event.result } ∷ [] in
    let low = c.requires.number in (
      on.0,
      record { event = c.perform-event.ensures.event ∙ ap (λ (x : Told). event_of x.input (state_of x) (state_of x).now c.args.action) (c.of-trail.ensures ∙ ap told_of c.get.ensures); entered = on.1.entered },
      record {
        knows = pool-after c.args.set.now c.args.book.now c.args.seat.now c.requires.may.has c.requires.may.current c.requires.may.goes c.args.action c.requires.own c.requires.may.enabled c.args.place c.requires.home c.requires.number (c.requires.knows.known.0, c.requires.knows.known.1) c.args.t.0 c.requires.may.now c.perform-event.result c.of-trail.result (c.of-trail.ensures ∙ ap told_of c.get.ensures) c.perform-event.ensures.event on.0.view on.1.entered.input on.1.knows c.perform-event.new.self c.perform-event.ensures.stands;
        names = λ n has. named-after h c.args.place n c.args.seat.now.view on.0.view (omega (arith, low)) on.1.knows has;
        others = others-after c.args.set.now c.args.book.now c.args.seat.now c.requires.may.has c.requires.may.current c.requires.may.goes c.args.action c.requires.own c.requires.may.enabled c.args.place c.requires.home c.requires.number (c.requires.knows.known.0, c.requires.knows.known.1) c.args.t.0 c.requires.may.now c.perform-event.result c.of-trail.result (c.of-trail.ensures ∙ ap told_of c.get.ensures) c.perform-event.ensures.event on.0.view on.1.entered.input on.1.knows;
      },
      on.1.took,
      on.1.entered.front ∙ sym on.1.history,
    )

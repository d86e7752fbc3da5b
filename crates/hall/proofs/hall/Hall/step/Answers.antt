use Rattle.std.proofs.Common.{◌≡◌, ◌∙◌, length, ap, subst, sym}
use Rattle.std.specs.Prelude.{Some}
use Rattle.sched_model.specs.declared.event.Event.{Event}
use Rattle.sched_model.specs.Runs.{event_action}
use Rattle.journal_core.specs.Books.{Chronicle}
use Rattle.machine_parts.proofs.Performing.{first-comes}
use Rattle.machine_parts.specs.Places.{state_of}
use Rattle.machine_parts.specs.Told.{told_of}
use Rattle.hall.specs.Seats.{IsCountBefore}
use Rattle.hall.specs.Steps.{HasBook}
use Rattle.lock_moves.specs.Sets.{LockTable}
use Rattle.hall.proofs.Calls.{adds-event}
use Rattle.hall.proofs.Parting.{now-held}
use Rattle.hall.proofs.Processors.{arrival-small}
use Rattle.hall.proofs.hall.Hall.step.Goals as goal

pub decides_before-decides-requires : goal.decides_before-decides-requires
decides_before-decides-requires c =
    let w = told_of c.args.book in
    record { few = arrival-small w c.requires.goes c.args.action (first-comes w.input (state_of w) c.args.action c.requires.first) c.args.self.now.opened.input c.requires.begins.input }

pub perform-event-requires-clause-may : goal.perform-event-requires-clause-may
perform-event-requires-clause-may c = record {
  has = subst (λ (x : LockTable). HasBook x c.args.book c.args.seat.now) (sym c.self.view_is) c.requires.begins.has;
  current = c.requires.begins.current;
  goes = c.requires.goes;
  room = c.requires.room;
  now = c.requires.now;
  enabled = first-comes c.args.book.input (state_of (told_of c.args.book)) c.args.action c.requires.first;
}

pub returns-clause-turn : goal.returns-clause-turn
returns-clause-turn c =
    let b = c.args.book in
    let s = c.args.seat.now in
    let decides = c.decides_before-decides.result in
    record {
      action = c.args.action;
      first = c.requires.first;
      is_event = c.perform-event.ensures.acted.event;
      adds = adds-event b s c.perform-event.new.seat c.args.action c.args.t c.len-place.result c.perform-event.result decides c.args.self.now.opened.input c.requires.begins.input (c.requires.now ∙ now-held c.args.self.now b s c.requires.begins.has c.requires.begins.current)
          (c.len-place.ensures ∙ ap (λ (x : Chronicle). length x.history) c.get.ensures) c.perform-event.ensures.acted.event c.perform-event.ensures.acted.entered
          (subst (λ (x : Chronicle). (e : Event) → event_action e ≡ Some c.args.action → IsCountBefore c.args.self.now.opened.input.config.granularity x.history e decides) c.get-2.ensures c.decides_before-decides.ensures);
    }

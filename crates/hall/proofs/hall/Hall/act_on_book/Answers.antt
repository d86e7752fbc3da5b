use Rattle.std.proofs.Common.{◌≡◌, ap, ◌∙◌, length, refl, sym, subst}
use Rattle.std.specs.Prelude.{Some}
use Rattle.sched_model.specs.CheckedMachine.{IsChecked}
use Rattle.journal_core.specs.Books.{Chronicle}
use Rattle.lock_moves.specs.Sets.{LockTable}
use Rattle.hall.specs.Seats.{IsCountBefore}
use Rattle.hall.specs.Steps.{HasTakenBook, MayAct}
use Rattle.sched_model.specs.declared.event.Event.{Event}
use Rattle.sched_model.specs.Runs.{event_action}
use Rattle.hall.proofs.GoingOn.{few-on, hold-acted, home-on, knows-on, may-on, own-on, served-on}
use Rattle.hall.proofs.hall.Hall.act_on_book.Goals as goal

pub decides_before-decides-requires : goal.decides_before-decides-requires
decides_before-decides-requires c = record { few = few-on c.args.self.now c.args.lock.0 c.requires.number c.args.t c.args.slot.now c.args.book.now c.requires.hold.0 c.args.seat.now c.args.arrived.now c.args.holder c.requires.holder (subst (λ (x : LockTable). IsChecked x.opened.input) c.self.view_is c.self.invariant.checked) c.requires.hold.1 c.requires.found.0 c.requires.found.1.has (Some c.args.action) c.requires.found.1.first c.args.action refl }

pub perform_on-event-requires-clause-may : goal.perform_on-event-requires-clause-may
perform_on-event-requires-clause-may c = subst (λ (x : LockTable). MayAct x c.args.book.now c.args.seat.now c.args.action c.args.t) (sym c.self.view_is) (may-on c.args.self.now c.args.lock.0 c.requires.number c.args.t c.args.slot.now c.args.book.now c.requires.hold.0 c.args.seat.now c.args.arrived.now c.args.holder c.requires.holder (subst (λ (x : LockTable). IsChecked x.opened.input) c.self.view_is c.self.invariant.checked) c.requires.hold.1 c.requires.found.0 c.requires.found.1.has (Some c.args.action) c.requires.found.1.first c.args.action refl c.requires.room)

pub perform_on-event-requires-clause-knows : goal.perform_on-event-requires-clause-knows
perform_on-event-requires-clause-knows c = knows-on c.args.self.now c.args.lock.0 c.requires.number c.args.t c.args.slot.now c.args.book.now c.requires.hold.0 c.args.seat.now c.args.arrived.now c.args.holder c.requires.holder (subst (λ (x : LockTable). IsChecked x.opened.input) c.self.view_is c.self.invariant.checked) c.requires.hold.1

pub perform_on-event-requires-clause-own : goal.perform_on-event-requires-clause-own
perform_on-event-requires-clause-own c = own-on c.args.self.now c.args.lock.0 c.requires.number c.args.t c.args.slot.now c.args.book.now c.requires.hold.0 c.args.seat.now c.args.arrived.now c.args.holder c.requires.holder (subst (λ (x : LockTable). IsChecked x.opened.input) c.self.view_is c.self.invariant.checked) c.requires.hold.1 c.requires.found.0 c.requires.found.1.has (Some c.args.action) c.requires.found.1.first c.args.action refl

pub perform_on-event-requires-clause-home : goal.perform_on-event-requires-clause-home
perform_on-event-requires-clause-home c = home-on c.args.self.now c.args.lock.0 c.requires.number c.args.t c.args.slot.now c.args.book.now c.requires.hold.0 c.args.seat.now c.args.arrived.now c.args.holder c.requires.holder (subst (λ (x : LockTable). IsChecked x.opened.input) c.self.view_is c.self.invariant.checked) c.requires.hold.1 c.requires.found.0 c.requires.found.1.has (Some c.args.action) c.requires.found.1.first c.args.action refl

pub returns : goal.returns
returns c = λ mid doer on doing.
    let hall = c.args.self.now in
    let e = c.perform_on-event.ensures in
    let again = subst (λ (x : LockTable). HasTakenBook x c.perform_on-event.new.book e.0 c.perform_on-event.new.seat) c.self.view_is e.3 in
    let place_is = c.len-place.ensures ∙ ap (λ (x : Chronicle). length x.history) c.get.ensures in
    let count = subst (λ (x : Chronicle). (e : Event) → event_action e ≡ Some c.args.action → IsCountBefore hall.opened.input.config.granularity x.history e c.decides_before-decides.result) c.get-2.ensures c.decides_before-decides.ensures in
    let checked = subst (λ (x : LockTable). IsChecked x.opened.input) c.self.view_is c.self.invariant.checked in (
      e.0,
      served-on hall c.args.lock.0 c.requires.number c.args.t c.args.slot.now c.args.book.now mid c.args.seat.now c.args.arrived.now c.args.holder c.requires.holder checked on doer doing.has (Some c.args.action) doing.first c.args.action refl c.len-place.result c.perform_on-event.result c.decides_before-decides.result c.perform_on-event.new.slot c.perform_on-event.new.book e.0 c.perform_on-event.new.seat c.arrived_after.result place_is e.1 e.2 again count c.arrived_after.ensures e.4,
      hold-acted hall c.args.lock.0 c.requires.number c.args.t c.args.slot.now c.args.book.now mid c.args.seat.now c.args.arrived.now c.args.holder c.requires.holder checked on doer doing.has (Some c.args.action) doing.first c.args.action refl c.len-place.result c.perform_on-event.result c.decides_before-decides.result c.perform_on-event.new.slot c.perform_on-event.new.book e.0 c.perform_on-event.new.seat c.arrived_after.result place_is e.1 e.2 again count c.arrived_after.ensures,
    )

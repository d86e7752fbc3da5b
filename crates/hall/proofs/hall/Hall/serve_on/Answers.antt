use Rattle.std.proofs.Common.{◌≤◌, ◌<◌, ◌∙◌, ◌∷◌, [], length, refl, ap, subst, arith}
use Rattle.std.specs.Prelude.{Option}
use Rattle.sched_model.specs.declared.action.Action.{Action}
use Rattle.sched_model.specs.CheckedMachine.{IsChecked}
use Rattle.journal_core.specs.Books.{Chronicle}
use Rattle.lock_moves.specs.Sets.{LockTable}
use Rattle.lock_moves.specs.Words.{name_number}
use Rattle.hall.specs.Holds.{first_with, seated}
use Rattle.hall.specs.Serving.{MayComeNext}
use Rattle.hall.specs.Steps.{HasBook}
use Rattle.hall.proofs.GoingOn.{hold-end, stays-end, takes-on}
use Rattle.hall.proofs.Holds.{stays-on}
use Rattle.hall.proofs.Locking.{keeps_same}
use Rattle.hall.proofs.Serving.{serves-below, serves-stay}
use Rattle.hall.proofs.ServingOn.{doer-on, full-end, served-end}
use Rattle.hall.proofs.hall.Hall.serve_on.Goals as goal

pub loop-init : goal.loop-init
loop-init g c =
    let book = c.take_book-book.ensures in
    record {
      mid = c.args.seat.now;
      hold = takes-on c.args.self.now c.args.lock.0 (name_number c.args.holder.name) c.args.t.0 c.args.slot.now c.take_book-book.result c.args.seat.now c.take_book-book.new.seat c.args.arrived.now c.requires.hold
          (subst (λ (x : LockTable). HasBook x c.take_book-book.result c.take_book-book.new.seat) c.self.view_is book.has) book.current book.sees book.locks book.still;
      found = c.first_event-found.ensures;
      places = [];
      serves = record { sight = keeps_same c.args.seat.now; arrived = refl };
      count = c.nothing-acted.ensures.count;
      first = c.nothing-acted.ensures.first;
    }

pub returns-in_default-clause-hold : goal.returns-in_default-clause-hold
returns-in_default-clause-hold g c = let i = c.loop.invariant in hold-end c.args.self.now c.args.lock.0 c.requires.number c.args.t c.loop.slot c.loop.book i.mid c.loop.seat c.loop.arrived c.args.holder c.requires.holder (subst (λ (x : LockTable). IsChecked x.opened.input) c.self.view_is c.self.invariant.checked) i.hold c.put_book.new.seat c.put_book.ensures.keeps c.put_book.ensures.locks

pub returns-in_default-clause-stays : goal.returns-in_default-clause-stays
returns-in_default-clause-stays g c =
    let i = c.loop.invariant in
    stays-on c.args.seat.now i.mid c.put_book.new.seat (serves-stay c.args.holder.actor i.places (seated c.args.seat.now c.args.arrived.now) (seated i.mid c.loop.arrived) i.serves)
    (stays-end c.args.self.now c.args.lock.0 c.requires.number c.args.t c.loop.slot c.loop.book i.mid c.loop.seat c.loop.arrived c.args.holder c.requires.holder (subst (λ (x : LockTable). IsChecked x.opened.input) c.self.view_is c.self.invariant.checked) i.hold c.put_book.new.seat c.put_book.ensures.keeps c.put_book.ensures.locks)

pub returns-in_default-clause-all : goal.returns-in_default-clause-all
returns-in_default-clause-all g c =
    let i = c.loop.invariant in
    served-end c.args.self.now c.args.lock.0 c.requires.number c.args.t c.loop.slot c.loop.book i.mid c.loop.seat c.loop.arrived c.args.holder c.requires.holder (subst (λ (x : LockTable). IsChecked x.opened.input) c.self.view_is c.self.invariant.checked) i.hold c.put_book.new.seat c.put_book.ensures.keeps c.put_book.ensures.locks
    c.loop.acted (seated c.args.seat.now c.args.arrived.now) i.places i.serves i.count i.first
    (subst (λ (o : Option Action). MayComeNext c.loop.slot c.args.t.0 o) c.in_default.is i.found)

pub returns-then-not-room_left-clause-hold : goal.returns-then-not-room_left-clause-hold
returns-then-not-room_left-clause-hold g c =
    let i = c.loop.invariant in
    hold-end c.args.self.now c.args.lock.0 c.requires.number c.args.t c.loop.slot c.loop.book i.mid c.loop.seat c.loop.arrived c.args.holder c.requires.holder (subst (λ (x : LockTable). IsChecked x.opened.input) c.self.view_is c.self.invariant.checked) i.hold c.put_book-then-not-room_left.new.seat c.put_book-then-not-room_left.ensures.keeps c.put_book-then-not-room_left.ensures.locks

pub returns-then-not-room_left-clause-stays : goal.returns-then-not-room_left-clause-stays
returns-then-not-room_left-clause-stays g c =
    let i = c.loop.invariant in
    let new = c.put_book-then-not-room_left.new.seat in
    stays-on c.args.seat.now i.mid new (serves-stay c.args.holder.actor i.places (seated c.args.seat.now c.args.arrived.now) (seated i.mid c.loop.arrived) i.serves)
    (stays-end c.args.self.now c.args.lock.0 c.requires.number c.args.t c.loop.slot c.loop.book i.mid c.loop.seat c.loop.arrived c.args.holder c.requires.holder (subst (λ (x : LockTable). IsChecked x.opened.input) c.self.view_is c.self.invariant.checked) i.hold new c.put_book-then-not-room_left.ensures.keeps c.put_book-then-not-room_left.ensures.locks)

pub returns-then-not-room_left-clause-full : goal.returns-then-not-room_left-clause-full
returns-then-not-room_left-clause-full g c =
    let i = c.loop.invariant in
    full-end c.args.self.now c.args.lock.0 c.requires.number c.args.t c.loop.slot c.loop.book i.mid c.loop.seat c.loop.arrived c.args.holder c.requires.holder (subst (λ (x : LockTable). IsChecked x.opened.input) c.self.view_is c.self.invariant.checked) i.hold c.put_book-then-not-room_left.new.seat c.put_book-then-not-room_left.ensures.keeps c.put_book-then-not-room_left.ensures.locks
    (record { events = c.limit-events.result }) (seated c.args.seat.now c.args.arrived.now) i.places i.serves c.in-Some-found.action
    (subst (λ (o : Option Action). MayComeNext c.loop.slot c.args.t.0 o) c.in-Some-found.is i.found)
    (c.limit-events.ensures ∙ ap (λ (x : Chronicle). x.limit) c.get-then-not-room_left.ensures)
    (subst (λ (x : Chronicle). length x.history ≤ x.limit) c.get.ensures c.tell.ensures.fits)
    (subst (λ (x : Chronicle). length x.history < x.limit → ⊥) c.get-in-loop.ensures (λ less. (let room = c.if-not-room_left.ensures.1 less in absurd (cc))))

pub act_on_book-place-requires-clause-hold : goal.act_on_book-place-requires-clause-hold
act_on_book-place-requires-clause-hold g c = let i = c.loop.invariant in (i.mid, i.hold)

pub act_on_book-place-requires-clause-room : goal.act_on_book-place-requires-clause-room
act_on_book-place-requires-clause-room g c = subst (λ (x : Chronicle). length x.history < x.limit) c.get-in-loop.ensures (c.if-not-room_left.ensures.0 refl)

pub act_on_book-place-requires-clause-found : goal.act_on_book-place-requires-clause-found
act_on_book-place-requires-clause-found g c =
    let i = c.loop.invariant in
    doer-on c.args.self.now c.args.lock.0 c.requires.number c.args.t c.loop.slot c.loop.book i.mid c.loop.seat c.loop.arrived c.args.holder c.requires.holder (subst (λ (x : LockTable). IsChecked x.opened.input) c.self.view_is c.self.invariant.checked) i.hold c.in-Some-found.action
    (subst (λ (o : Option Action). MayComeNext c.loop.slot c.args.t.0 o) c.in-Some-found.is i.found)

pub add-requires : goal.add-requires
add-requires g c =
    let i = c.loop.invariant in
    let d = doer-on c.args.self.now c.args.lock.0 c.requires.number c.args.t c.loop.slot c.loop.book i.mid c.loop.seat c.loop.arrived c.args.holder c.requires.holder (subst (λ (x : LockTable). IsChecked x.opened.input) c.self.view_is c.self.invariant.checked) i.hold c.in-Some-found.action
    (subst (λ (o : Option Action). MayComeNext c.loop.slot c.args.t.0 o) c.in-Some-found.is i.found) in
    let e = c.act_on_book-place.ensures i.mid d.0 i.hold d.1 in
    let below = serves-below c.args.holder.actor i.places (seated c.args.seat.now c.args.arrived.now) (seated i.mid c.loop.arrived) (seated e.0 c.act_on_book-place.new.arrived) c.act_on_book-place.result.0 i.serves (d.0, e.1.served) in
    let count = i.count in
    record { few = omega (arith, below, count) }

pub loop-preserved : goal.loop-preserved
loop-preserved g c =
    let i = c.loop.invariant in
    let d = doer-on c.args.self.now c.args.lock.0 c.requires.number c.args.t c.loop.slot c.loop.book i.mid c.loop.seat c.loop.arrived c.args.holder c.requires.holder (subst (λ (x : LockTable). IsChecked x.opened.input) c.self.view_is c.self.invariant.checked) i.hold c.in-Some-found.action
    (subst (λ (o : Option Action). MayComeNext c.loop.slot c.args.t.0 o) c.in-Some-found.is i.found) in
    let e = c.act_on_book-place.ensures i.mid d.0 i.hold d.1 in
    let place = c.act_on_book-place.result.0 in
    let count = i.count in
    let more = c.add.ensures.count in
    record {
      mid = e.0;
      hold = e.2;
      found = c.next_event-found.ensures;
      places = place ∷ i.places;
      serves = (seated i.mid c.loop.arrived, i.serves, (d.0, e.1.served));
      count = omega (arith, count, more);
      first = c.add.ensures.first ∙ ap (first_with place) i.first;
    }

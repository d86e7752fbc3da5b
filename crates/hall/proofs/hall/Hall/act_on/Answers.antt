use Rattle.std.proofs.Common.{◌≤◌, ◌<◌, ◌∙◌, length, refl, sym, ap, subst}
use Rattle.sched_model.specs.CheckedMachine.{IsChecked}
use Rattle.journal_core.specs.Books.{Chronicle}
use Rattle.lock_moves.specs.Sets.{LockTable}
use Rattle.lock_moves.specs.Words.{name_number}
use Rattle.hall.specs.Steps.{HasBook}
use Rattle.hall.proofs.GoingOn.{actor-on, full-on, hold-end, itself, nothing-on, stays-end, takes-on}
use Rattle.hall.proofs.Holds.{done-once, stays-on}
use Rattle.hall.proofs.hall.Hall.act_on.Goals as goal

pub returns-in_default : goal.returns-in_default
returns-in_default g c =
    let hall = c.args.self.now in
    let k = c.args.lock.0 in
    let low = c.requires.number in
    let t = c.args.t in
    let slot = c.args.slot.now in
    let s0 = c.args.seat.now in
    let kept = c.args.arrived.now in
    let holder = c.args.holder in
    let is_holder = c.requires.holder in
    let b = c.take_book-book.result in
    let s1 = c.take_book-book.new.seat in
    let book = c.take_book-book.ensures in
    let checked = subst (λ (x : LockTable). IsChecked x.opened.input) c.self.view_is c.self.invariant.checked in
    let on = takes-on hall c.args.lock.0 (name_number c.args.holder.name) c.args.t.0 c.args.slot.now b s0 s1 c.args.arrived.now c.requires.hold (subst (λ (x : LockTable). HasBook x b s1) c.self.view_is book.has) book.current book.sees book.locks book.still in
    let new = c.put_book.new.seat in
    let keeps = c.put_book.ensures.keeps in
    let locks = c.put_book.ensures.locks in
    record {
      hold = hold-end hall k low t slot b s0 s1 kept holder is_holder checked on new keeps locks;
      stays = stays-end hall k low t slot b s0 s1 kept holder is_holder checked on new keeps locks;
      done = (nothing-on hall k low t slot b s0 s1 kept holder is_holder checked on holder.actor (actor-on hall k low t slot b s0 s1 kept holder is_holder checked on) c.enabled_for-found.result c.enabled_for-found.ensures.pool c.in_default.is new keeps, refl);
      full = tt;
      kept = tt;
    }

pub returns-then-not-room_left : goal.returns-then-not-room_left
returns-then-not-room_left g c =
    let hall = c.args.self.now in
    let k = c.args.lock.0 in
    let low = c.requires.number in
    let t = c.args.t in
    let slot = c.args.slot.now in
    let s0 = c.args.seat.now in
    let kept = c.args.arrived.now in
    let holder = c.args.holder in
    let is_holder = c.requires.holder in
    let b = c.take_book-book.result in
    let s1 = c.take_book-book.new.seat in
    let book = c.take_book-book.ensures in
    let checked = subst (λ (x : LockTable). IsChecked x.opened.input) c.self.view_is c.self.invariant.checked in
    let on = takes-on hall c.args.lock.0 (name_number c.args.holder.name) c.args.t.0 c.args.slot.now b s0 s1 c.args.arrived.now c.requires.hold (subst (λ (x : LockTable). HasBook x b s1) c.self.view_is book.has) book.current book.sees book.locks book.still in
    let new = c.put_book-then-not-room_left.new.seat in
    let keeps = c.put_book-then-not-room_left.ensures.keeps in
    let locks = c.put_book-then-not-room_left.ensures.locks in
    record {
      hold = hold-end hall k low t slot b s0 s1 kept holder is_holder checked on new keeps locks;
      stays = stays-end hall k low t slot b s0 s1 kept holder is_holder checked on new keeps locks;
      done = tt;
      full = full-on hall k low t slot b s0 s1 kept holder is_holder checked on holder.actor (actor-on hall k low t slot b s0 s1 kept holder is_holder checked on) c.enabled_for-found.result c.enabled_for-found.ensures.pool c.in-Some.action c.in-Some.is (record { events = c.limit-events.result }) new keeps
          (c.limit-events.ensures ∙ ap (λ (x : Chronicle). x.limit) c.get-then-not-room_left.ensures)
          (subst (λ (x : Chronicle). length x.history ≤ x.limit) c.get.ensures c.tell.ensures.fits)
          (subst (λ (x : Chronicle). length x.history < x.limit → ⊥) c.get-2.ensures (λ less. (let room = c.if-not-room_left.ensures.1 less in absurd (cc))));
      kept = refl;
    }

pub act_on_book-place-requires : goal.act_on_book-place-requires
act_on_book-place-requires g c =
    let hall = c.args.self.now in
    let k = c.args.lock.0 in
    let low = c.requires.number in
    let t = c.args.t in
    let slot = c.args.slot.now in
    let s0 = c.args.seat.now in
    let kept = c.args.arrived.now in
    let holder = c.args.holder in
    let is_holder = c.requires.holder in
    let b = c.take_book-book.result in
    let s1 = c.take_book-book.new.seat in
    let book = c.take_book-book.ensures in
    let checked = subst (λ (x : LockTable). IsChecked x.opened.input) c.self.view_is c.self.invariant.checked in
    let on = takes-on hall c.args.lock.0 (name_number c.args.holder.name) c.args.t.0 c.args.slot.now b s0 s1 c.args.arrived.now c.requires.hold (subst (λ (x : LockTable). HasBook x b s1) c.self.view_is book.has) book.current book.sees book.locks book.still in
    record {
      number = low;
      hold = (s0, on);
      holder = is_holder;
      room = subst (λ (x : Chronicle). length x.history < x.limit) c.get-2.ensures (c.if-not-room_left.ensures.0 refl);
      found = (holder.actor, itself hall k low t slot b s0 s1 kept holder is_holder checked on c.enabled_for-found.result c.in-Some.action c.in-Some.is c.enabled_for-found.ensures.pool);
    }

pub put_book-requires-2 : goal.put_book-requires-2
put_book-requires-2 g c =
    let hall = c.args.self.now in
    let k = c.args.lock.0 in
    let low = c.requires.number in
    let t = c.args.t in
    let slot = c.args.slot.now in
    let s0 = c.args.seat.now in
    let kept = c.args.arrived.now in
    let holder = c.args.holder in
    let is_holder = c.requires.holder in
    let b = c.take_book-book.result in
    let s1 = c.take_book-book.new.seat in
    let book = c.take_book-book.ensures in
    let checked = subst (λ (x : LockTable). IsChecked x.opened.input) c.self.view_is c.self.invariant.checked in
    let on = takes-on hall c.args.lock.0 (name_number c.args.holder.name) c.args.t.0 c.args.slot.now b s0 s1 c.args.arrived.now c.requires.hold (subst (λ (x : LockTable). HasBook x b s1) c.self.view_is book.has) book.current book.sees book.locks book.still in
    let acted = c.act_on_book-place.ensures s0 holder.actor on (itself hall k low t slot b s0 s1 kept holder is_holder checked on c.enabled_for-found.result c.in-Some.action c.in-Some.is c.enabled_for-found.ensures.pool) in
    let after = c.act_on_book-place.new in
    let kept_now = after.arrived in
    record {
      has = subst (λ (x : LockTable). HasBook x after.book after.seat) (sym c.self.view_is) acted.2.took.has;
      current = acted.2.took.current;
    }

pub returns : goal.returns
returns g c =
    let hall = c.args.self.now in
    let k = c.args.lock.0 in
    let low = c.requires.number in
    let t = c.args.t in
    let slot = c.args.slot.now in
    let s0 = c.args.seat.now in
    let kept = c.args.arrived.now in
    let holder = c.args.holder in
    let is_holder = c.requires.holder in
    let b = c.take_book-book.result in
    let s1 = c.take_book-book.new.seat in
    let book = c.take_book-book.ensures in
    let checked = subst (λ (x : LockTable). IsChecked x.opened.input) c.self.view_is c.self.invariant.checked in
    let on = takes-on hall c.args.lock.0 (name_number c.args.holder.name) c.args.t.0 c.args.slot.now b s0 s1 c.args.arrived.now c.requires.hold (subst (λ (x : LockTable). HasBook x b s1) c.self.view_is book.has) book.current book.sees book.locks book.still in
    let acted = c.act_on_book-place.ensures s0 holder.actor on (itself hall k low t slot b s0 s1 kept holder is_holder checked on c.enabled_for-found.result c.in-Some.action c.in-Some.is c.enabled_for-found.ensures.pool) in
    let after = c.act_on_book-place.new in
    let kept_now = after.arrived in
    let new = c.put_book-2.new.seat in
    let keeps = c.put_book-2.ensures.keeps in
    let locks = c.put_book-2.ensures.locks in
    record {
      hold = hold-end hall k low t after.slot after.book acted.0 after.seat kept_now holder is_holder checked acted.2 new keeps locks;
      stays = stays-on s0 acted.0 new acted.1.served.once.stays (stays-end hall k low t after.slot after.book acted.0 after.seat kept_now holder is_holder checked acted.2 new keeps locks);
      done = done-once hall holder.actor c.act_on_book-place.result.0 c.act_on_book-place.result.1 after.book s0 acted.0 after.seat new kept kept_now acted.1 acted.2.took keeps;
      full = tt;
      kept = tt;
    }

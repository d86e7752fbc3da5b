-- A hold of a whole pool that keeps the book in hand: who does what comes first, and the two ends.
use Rattle.std.proofs.Common.{◌≡◌, ◌∙◌, ◌<◌, ◌≤◌, ℕ, true, List, length, refl, sym, subst, inl, inr}
use Rattle.std.specs.Prelude.{None, Option, Some}
use Rattle.std.specs.Option.{ForSome}
use Rattle.sched_base.specs.declared.Moment.{Moment}
use Rattle.sched_model.specs.declared.action.Action.{Action}
use Rattle.sched_model.specs.declared.action.Actor.{Actor}
use Rattle.sched_model.specs.declared.event.Entry.{Entry}
use Rattle.sched_model.specs.declared.machine.Machine.{Machine}
use Rattle.sched_model.specs.CheckedMachine.{IsChecked, IsGranularity}
use Rattle.sched_laws.proofs.Lists.{some_is}
use Rattle.composition_laws.specs.Actors.{has_actor}
use Rattle.pool_laws.specs.Actors.{IsFirstBy}
use Rattle.pool_laws.specs.FirstEvents.{IsFirst, IsFirstEnabled}
use Rattle.pool_core.specs.Seen.{Seen as PoolSeen}
use Rattle.journal_core.specs.Books.{Chronicle}
use Rattle.journal_core.specs.Histories.{state_at}
use Rattle.lock_moves.specs.SeatSight.{Sitting}
use Rattle.lock_moves.specs.Sets.{LockTable}
use Rattle.lock_moves.specs.Words.{name_number}
use Rattle.hall.specs.declared.turns.Acted.{Acted}
use Rattle.hall.specs.declared.hold.Holder.{Holder}
use Rattle.hall.specs.declared.seat.Arrival.{Arrival}
use Rattle.hall.specs.declared.turns.Full.{Full}
use Rattle.hall.specs.Holds.{InHoldOn, IsHolder, last_of, seated}
use Rattle.hall.specs.Seats.{Seated}
use Rattle.hall.specs.Serving.{AreTogether, HasServed, HasServedFull, IsDoerOf, IsSomebodys, MayComeNext, Serves}
use Rattle.hall.specs.Steps.{HasTakenBook, KeepsLocks, KeepsSight}
use Rattle.hall.specs.Turns.{is_actor}
use Rattle.hall.proofs.Doers.{HasDoer, doer, first-by, has-doer, none-by}
use Rattle.hall.proofs.GoingOn.{actor-on, full-on, input-on, knows-on, nothing-on, some-on, stays-end}
use Rattle.hall.proofs.Together.{inside-held, other-held, some-held, together-held}

module _ (hall : LockTable) (k : ℕ) (low : k < 16) (t : Moment) (slot : Option PoolSeen) (b : Chronicle) (mid s : Sitting) (arrived : Option Arrival) (holder : Holder) (is_holder : IsHolder hall.opened.input holder) (checked : IsChecked hall.opened.input)
    (on : InHoldOn hall k (name_number holder.name) t.0 slot b mid (seated s arrived)) where
  abbrev took : HasTakenBook hall b mid s
  took = on.took

  here : (seen : PoolSeen) × (slot ≡ Some seen)
  here = some_is slot (some-on hall k low t slot b mid s arrived holder is_holder checked on)

  abbrev seen : PoolSeen
  seen = here.0

  -- what is so of the pool that was seen there, is so of the place
  at-slot : (P : PoolSeen → Type 0) → P seen → ForSome slot P
  at-slot P p x is = subst P (let e : (let o : Option PoolSeen = Some seen in o) ≡ Some x = sym here.1 ∙ is in cc) p

  of-granularity : IsGranularity seen.granularity
  of-granularity =
      subst IsGranularity (sym ((on.hold.knows.suits seen here.1).granularity))
      (subst (λ (m : Machine). IsGranularity m.config.granularity) (sym on.hold.of.input) checked.config.granularity)

  -- the pool has the actor whose first event this is
  of-somebody : (action : Action) → IsSomebodys slot t.0 action → (actor : Actor) × IsDoerOf slot t.0 action actor
  of-somebody action (actor, first) =
      let f = first seen here.1 in
      (actor, record { has = at-slot (λ x. has_actor x.granularity x.pool actor ≡ true) (has-doer seen.granularity t.0 of-granularity seen.pool action actor f.enabled f.own); first = first })

  -- somebody does what comes first in the pool
  of-first : (action : Action) → ForSome slot (λ x. IsFirstEnabled x.granularity t.0 x.pool (Some action)) → (actor : Actor) × IsDoerOf slot t.0 action actor
  of-first action first =
      let f : IsFirst seen.granularity t.0 seen.pool action = first seen here.1 in
      let who : HasDoer seen.granularity seen.pool action = doer seen.granularity t.0 of-granularity seen.pool action f.of_pool f.enabled in
      of-somebody action (who.actor, at-slot (λ x. IsFirstBy x.granularity t.0 x.pool who.actor (Some action)) (first-by seen.granularity t.0 of-granularity seen.pool action who.actor f who.by))

  -- so somebody does what may come next
  pub doer-on : (action : Action) → MayComeNext slot t.0 (Some action) → (actor : Actor) × IsDoerOf slot t.0 action actor
  doer-on action (inl somebodys) = of-somebody action somebodys
  doer-on action (inr first) = of-first action first

  -- the book was looked at, and went back as it was
  module _ (new : Sitting) (keeps : KeepsSight s new) (same : KeepsLocks s.view new.view) where
    input-seen : b.input ≡ mid.view.input
    input-seen = took.has.input ∙ took.sees.input

    front-seen : new.view.front ≡ b.history
    front-seen = keeps.front ∙ took.sees.front

    -- who is together with the holder, is so by the seat's input and front, and by the book
    to-seat : (other : Actor) → AreTogether b.input.config.granularity (state_at b.input b.history) holder.actor other → AreTogether mid.view.input.config.granularity (state_at mid.view.input new.view.front) holder.actor other
    to-seat other both =
        subst (λ (h : List Entry). AreTogether mid.view.input.config.granularity (state_at mid.view.input h) holder.actor other) (sym front-seen)
        (subst (λ (m : Machine). AreTogether m.config.granularity (state_at m b.history) holder.actor other) input-seen both)

    to-book : (other : Actor) → AreTogether mid.view.input.config.granularity (state_at mid.view.input new.view.front) holder.actor other → AreTogether b.input.config.granularity (state_at b.input b.history) holder.actor other
    to-book other both =
        subst (λ (m : Machine). AreTogether m.config.granularity (state_at m b.history) holder.actor other) (sym input-seen)
        (subst (λ (h : List Entry). AreTogether mid.view.input.config.granularity (state_at mid.view.input h) holder.actor other) front-seen both)

    -- nothing may come in the pool
    pub served-end : (acted : Acted) (old : Seated) (places : List ℕ) → Serves holder.actor places old (seated mid arrived) → acted.count ≡ length places → acted.first ≡ last_of places
        → ForSome slot (λ x. IsFirstEnabled x.granularity t.0 x.pool None) → HasServed holder.actor acted old (seated new arrived)
    served-end acted old places serves count first none =
        let mine = actor-on hall k low t slot b mid s arrived holder is_holder checked on in
        let quiet : (actor : Actor) → ForSome slot (λ x. IsFirstBy x.granularity t.0 x.pool actor None) = λ actor. at-slot (λ x. IsFirstBy x.granularity t.0 x.pool actor None) (none-by seen.granularity t.0 of-granularity seen.pool actor (none seen here.1)) in
        record {
          places = places;
          mid = seated mid arrived;
          serves = serves;
          stays = stays-end hall k low t slot b mid s arrived holder is_holder checked on new keeps same;
          nothing = nothing-on hall k low t slot b mid s arrived holder is_holder checked on holder.actor mine None (quiet holder.actor) refl new keeps;
          others = λ other both. nothing-on hall k low t slot b mid s arrived holder is_holder checked on other
              (other-held hall b s took.has took.current hall.opened.input checked (input-on hall k low t slot b mid s arrived holder is_holder checked on) k low slot (knows-on hall k low t slot b mid s arrived holder is_holder checked on)
              (some-on hall k low t slot b mid s arrived holder is_holder checked on) holder.actor other mine (to-book other both))
              None (quiet other) refl new keeps;
          arrived = refl {a = arrived};
          count = count;
          first = first;
        }

    -- something may, and the book is full
    pub full-end : (full : Full) (old : Seated) (places : List ℕ) → Serves holder.actor places old (seated mid arrived) → (action : Action) → MayComeNext slot t.0 (Some action)
        → full.events ≡ b.limit → length b.history ≤ b.limit → (length b.history < b.limit → ⊥) → HasServedFull holder.actor full old (seated new arrived)
    full-end full old places serves action next events fits no_room =
        let mine = actor-on hall k low t slot b mid s arrived holder is_holder checked on in
        let input = input-on hall k low t slot b mid s arrived holder is_holder checked on in
        let knows = knows-on hall k low t slot b mid s arrived holder is_holder checked on in
        let some = some-on hall k low t slot b mid s arrived holder is_holder checked on in
        let d = doer-on action next in
        record {
          places = places;
          mid = seated mid arrived;
          serves = serves;
          stays = stays-end hall k low t slot b mid s arrived holder is_holder checked on new keeps same;
          doer = d.0;
          is = subst (λ (m : Machine). is_actor m.config d.0 ≡ true) input-seen (inside-held hall b s took.has took.current hall.opened.input checked input k low slot knows some d.0 d.1.has);
          some = some-held hall b s took.has took.current hall.opened.input checked input k low slot knows some d.0 d.1.has;
          together = to-seat d.0 (together-held hall b s took.has took.current hall.opened.input checked input k low slot knows some holder.actor d.0 mine d.1.has);
          full_is = full-on hall k low t slot b mid s arrived holder is_holder checked on d.0 d.1.has (Some action) d.1.first action refl full new keeps events fits no_room;
          arrived = refl {a = arrived};
        }

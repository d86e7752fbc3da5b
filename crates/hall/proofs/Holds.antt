-- What a hold does, act by act: a seat that goes on holding the lock of a pool, and gives it back at the end.
use mathlib.Core.List.{IsPrefix}
use mathlib.Core.Logic.{dite}
use native.Mathlib.Decide.{ℕ_discrete, dec_lt}
use Rattle.std.proofs.Common.{◌≡◌, ◌≢◌, ◌∙◌, ◌<◌, ◌≤◌, ◌+◌, ◌++◌, ℕ, true, List, [], ◌∷◌, length, length-append, refl, sym, ap, subst, arith}
use Rattle.std.specs.Prelude.{Option, Some, None, Result, Ok, Err, IfOk, IfErr, IfSome}
use Rattle.std.specs.Option.{ForSome, IsSome}
use Rattle.sched_base.specs.Numbers.{moment}
use Rattle.sched_model.specs.declared.action.Actor.{Actor}
use Rattle.sched_model.specs.declared.event.Entry.{Entry}
use Rattle.sched_model.specs.declared.event.Event.{Event}
use Rattle.sched_model.specs.declared.machine.Machine.{Machine}
use Rattle.sched_model.specs.Machine.{event_of}
use Rattle.sched_model.specs.Runs.{IsRun}
use Rattle.composition_laws.specs.Actors.{first_by, has_actor}
use Rattle.journal_core.specs.Books.{Chronicle}
use Rattle.journal_core.specs.Histories.{part_at, state_at}
use Rattle.journal_core.specs.Parts.{StatePart, lists}
use Rattle.lock_moves.specs.declared.content.NameId.{NameId}
use Rattle.lock_moves.specs.SeatSight.{Known, Seen, Sitting, after_give, find_lock, known_part, locks_without, has_place}
use Rattle.lock_moves.specs.Sets.{HasName, LockTable, sitting_with}
use Rattle.lock_moves.specs.Words.{name_number}
use Rattle.lock_moves.proofs.Finding.{find-without-other, find-without-same, none_held}
use Rattle.lock_moves.proofs.Named.{name_below}
use Rattle.lock_moves.proofs.Prefix.{prefix_length}
use Rattle.pool_core.specs.Seen.{Seen as PoolSeen}
use Rattle.machine_parts.specs.Places.{SlotSuits, slot_part}
use Rattle.hall.specs.declared.hold.Hold.{Hold}
use Rattle.hall.specs.declared.hold.Holder.{Holder}
use Rattle.hall.specs.declared.turns.Done.{Done}
use Rattle.hall.specs.declared.turns.Done.TheVariants as done
use Rattle.hall.specs.declared.turns.Full.{Full}
use Rattle.hall.specs.BookTurns.{HoldsOnly, IsNamed}
use Rattle.hall.specs.Holds.{BeginsHold, HasActedOnce, InHold, IsArrivalOf, IsAsBefore, seated}
use Rattle.hall.specs.SeatKnowledge.{KnowsPool}
use Rattle.hall.specs.Seats.{IsSeatOf, Seated, SeatStays, kept_arrival}
use Rattle.hall.specs.Serving.{HasServedOn}
use Rattle.hall.specs.declared.seat.Arrival.{Arrival}
use Rattle.hall.proofs.Counting.{counted-later}
use Rattle.hall.specs.Steps.{HasTakenBook, KeepsOthers, KeepsSight, KnowsAfter}
use Rattle.hall.specs.Turns.{ActsFull, Added, HasActed, HasNothing, IsDone, Looked}
use Rattle.hall.proofs.Locking.{keeps_on, keeps_same}
use Rattle.hall.proofs.UnderOne.{actor-there}

-- a name that the seat has for a lock, it has as long as it knows the same of the lock
pub named-same : (k n : ℕ) (old new : Seen) → find_lock k new.held ≡ find_lock k old.held → HasName k n old → HasName k n new
named-same k n old new same has = (has.0, same ∙ has.1, has.2)

-- and once the book went back with a further entry
pub named-after : (h : List Entry) (k n : ℕ) (old new : Seen) → k < 17 → KnowsAfter h old new → HasName k n old → HasName k n new
named-after h k n old new low after has = (known_part (part_at old.input h k) has.0.names, after.some k has.0 low has.1, has.2)

-- the lock is the only one that is held, where the book was taken and went back
pub only-still : (k : ℕ) (v1 v2 v3 : Seen) → HoldsOnly k v1 → ((j : ℕ) → j ≢ 17 → find_lock j v2.held ≡ find_lock j v1.held) → KeepsOthers k v2 v3 → HoldsOnly k v3
only-still k v1 v2 v3 only locks others j other = dite (dec_lt j 17)
    (λ part. others.locks j part other ∙ locks j (λ e. omega (arith, e, part)) ∙ only j other)
    (λ high. dite (ℕ_discrete j 17)
    (λ book. ap (λ (n : ℕ). find_lock n v3.held) book ∙ others.book)
    (λ more. others.others j (omega (arith, high, more)) (locks j more ∙ only j other)))

-- it is put back, and nothing is held
pub gone-only : (k : ℕ) (s new : Sitting) → HoldsOnly k s.view → new ≡ sitting_with s (after_give k s.view) → new.view.held ≡ []
gone-only k s new only is =
    ap (λ (x : Sitting). x.view.held) is ∙ none_held (locks_without k s.view.held) (λ j. dite (ℕ_discrete j k)
    (λ same. ap (λ (n : ℕ). find_lock n (locks_without k s.view.held)) same ∙ find-without-same k s.view.held)
    (λ other. find-without-other k j s.view.held other ∙ only j other))

pub stays-on : (a b c : Sitting) → SeatStays a b → SeatStays b c → SeatStays a c
stays-on a b c p q = record { table = q.table ∙ p.table; input = q.input ∙ p.input; limit = q.limit ∙ p.limit; shares = q.shares ∙ p.shares }

-- a seat that is of the hall stays so
pub of-hall : (hall : LockTable) (a b : Sitting) → IsSeatOf hall a → SeatStays a b → IsSeatOf hall b
of-hall hall a b of stays = record { table = stays.table ∙ of.table; input = stays.input ∙ of.input; limit = stays.limit ∙ of.limit }

-- the seat has seen no more, though it may have taken the book again
pub record IsSameSight (old new : Sitting) : Type 0 where
  pub limit : new.view.limit ≡ old.view.limit
  pub front : new.view.front ≡ old.view.front
  pub own : new.view.own ≡ old.view.own
  pub takes : old.view.takes ≤ new.view.takes

pub sight-same : (old new : Sitting) → KeepsSight old new → IsSameSight old new
sight-same old new keeps = record { limit = keeps.limit; front = keeps.front; own = keeps.own; takes = (let t = keeps.takes in omega (arith, t)) }

-- what is said of a call is said of it with a lock taken before and given back after it
module _ (first old s new : Sitting) (took : KeepsSight first old) (gave : IsSameSight s new) where
  run-held : IsRun old.view.input s.view.front → IsRun first.view.input new.view.front
  run-held run = subst (IsRun first.view.input) (sym gave.front) (subst (λ (m : Machine). IsRun m s.view.front) took.input run)

  looked-held : Looked old.view s.view → Looked first.view new.view
  looked-held looked = record {
    begins = subst (λ (h : List Entry). IsPrefix h new.view.front) took.front (subst (IsPrefix old.view.front) (sym gave.front) looked.begins);
    run = run-held looked.run;
    own = gave.own ∙ looked.own ∙ took.own;
    took = (let a = looked.took in let b = gave.takes in let c = took.takes in omega (arith, a, b, c));
    alone = λ whole. gave.front ∙ looked.alone (took.shares ∙ whole) ∙ took.front;
  }

  added-held : (place : ℕ) (e : Event) (before : List Entry) → Added place e before old.view s.view → Added place e before first.view new.view
  added-held place e before added = record {
    begins = subst (λ (h : List Entry). IsPrefix h before) took.front added.begins;
    place_is = added.place_is;
    front = gave.front ∙ added.front ∙ ap (λ (m : Machine). before ++ record { at = moment (state_at m before).now; event = e } ∷ []) took.input;
    run = run-held added.run;
    own = gave.own ∙ added.own ∙ ap (λ (xs : List ℕ). xs ++ place ∷ []) took.own;
    took = (let a = added.took in let b = gave.takes in let c = took.takes in omega (arith, a, b, c));
    alone = λ whole. added.alone (took.shares ∙ whole) ∙ took.front;
  }

  pub nothing-held : (actor : Actor) → HasNothing actor old.view s.view → HasNothing actor first.view new.view
  nothing-held actor nothing = record {
    looked = looked-held nothing.looked;
    none = subst (λ (h : List Entry). first_by first.view.input (state_at first.view.input h) actor ≡ None) (sym gave.front)
        (subst (λ (m : Machine). first_by m (state_at m s.view.front) actor ≡ None) took.input nothing.none);
  }

  pub full-held : (actor : Actor) (full : Full) → ActsFull actor full old.view s.view → ActsFull actor full first.view new.view
  full-held actor full told = record {
    looked = looked-held told.looked;
    full_is = record { events = told.full_is.events ∙ sym gave.limit; length_is = ap length gave.front ∙ told.full_is.length_is ∙ sym gave.limit };
    due = λ none. told.due (subst (λ (m : Machine). first_by m (state_at m s.view.front) actor ≡ None) (sym took.input)
        (subst (λ (h : List Entry). first_by first.view.input (state_at first.view.input h) actor ≡ None) gave.front none));
  }

  acted-held : (actor : Actor) (place : ℕ) (e : Event) (before : List Entry) → HasActed actor place e before old.view s.view → HasActed actor place e before first.view new.view
  acted-held actor place e before acted = record {
    action = acted.action;
    first = subst (λ (m : Machine). first_by m (state_at m before) actor ≡ Some acted.action) took.input acted.first;
    is_event = subst (λ (m : Machine). e ≡ event_of m (state_at m before) (state_at m before).now acted.action) took.input acted.is_event;
    added = added-held place e before acted.added;
  }

  pub done-held : (actor : Actor) (had has : Option Arrival) (d : Done) → IsDone actor d (seated old had) (seated s has) → IsDone actor d (seated first had) (seated new has)
  done-held actor had has (done.Event place e) told = (told.0, acted-held actor place e told.0 told.1, told.2 ∙ ap (λ (m : Machine). kept_arrival m.config.granularity told.0 e had) took.input)
  done-held actor had has done.Nothing told = (nothing-held actor told.0, told.1)

  pub answer-held : (actor : Actor) (had has : Option Arrival) (r : Result Done Full) → IfOk r (λ d. IsDone actor d (seated old had) (seated s has)) → IfOk r (λ d. IsDone actor d (seated first had) (seated new has))
  answer-held actor had has (Ok d) told = done-held actor had has d told
  answer-held actor had has (Err full) told = tt

  pub refusal-held : (actor : Actor) (r : Result Done Full) → IfErr r (λ full. ActsFull actor full old.view s.view) → IfErr r (λ full. ActsFull actor full first.view new.view)
  refusal-held actor (Ok d) told = tt
  refusal-held actor (Err full) told = full-held actor full told

-- one act more, behind which the book was taken again and went back as it was
pub done-once : (set : LockTable) (actor : Actor) (place : ℕ) (e : Event) (b : Chronicle) (old mid again new : Sitting) (had has : Option Arrival) → HasServedOn actor actor place e b (seated old had) (seated mid has)
    → HasTakenBook set b mid again → KeepsSight again new → IsDone actor (done.Event place e) (seated old had) (seated new has)
done-once set actor place e b old mid again new had has on took keeps =
    let same : IsSameSight mid new = record {
      limit = keeps.limit ∙ took.sees.limit;
      front = keeps.front ∙ took.sees.front ∙ sym on.front;
      own = keeps.own ∙ took.sees.own;
      takes = (let a = keeps.takes in let c = took.sees.takes in omega (arith, a, c));
    } in
    done-held old old mid new (keeps_same old) same actor had has (done.Event place e)
    (subst (λ (x : Event). IsDone actor (done.Event place x) (seated old had) (seated mid has)) on.event_is on.served.once.done)

pub as-before-on : (a b c : Seated) → IsAsBefore a b → IsAsBefore b c → IsAsBefore a c
as-before-on a b c p q = record { sight = keeps_on a.sitting b.sitting c.sitting p.sight q.sight; arrived = q.arrived ∙ p.arrived }

-- each act has its place in the history
pub once-longer : (actor : Actor) (place : ℕ) (old new : Seated) → HasActedOnce actor place old new → (length old.sitting.view.front ≤ place) × (length new.sitting.view.front ≡ place + 1)
once-longer actor place old new once =
    let added = once.done.1.added in
    let less = prefix_length old.sitting.view.front once.done.0 added.begins in
    let len : length new.sitting.view.front ≡ length once.done.0 + 1 = ap length added.front ∙ length-append once.done.0 _ in
    let place_is = added.place_is in
    (omega (arith, less, place_is), omega (arith, len, place_is))

-- the pool whose lock is held lists the actor's name, so it is there and has the actor
module _ (hall : LockTable) (k t : ℕ) (slot : Option PoolSeen) (s : Seated) (actor : Actor) (name : NameId) (named : IsNamed hall.opened.input actor name) (hold : InHold hall k (name_number name) t slot s) where
  listed : lists (slot_part slot) (name_number name) ≡ true
  listed =
      let known = hold.knows.known in
      let has = hold.has in
      let same : has.0 ≡ known.0 = (let is : (let o : Option Known = Some has.0 in o) ≡ Some known.0 = sym has.1 ∙ known.1 in cc) in
      ap (λ (p : StatePart). lists p (name_number name)) known.2
      ∙ known.3 (name_number name) (name_below hall.opened.input name named.has)
      ∙ subst (λ (x : Known). has_place (name_number name) x.names ≡ true) same has.2

  some-listed : (o : Option PoolSeen) → lists (slot_part o) (name_number name) ≡ true → IsSome o
  some-listed (Some seen) is = refl
  some-listed None is = absurd (cc)

  pub hold-some : IsSome slot
  hold-some = some-listed slot listed

  pub hold-actor : ForSome slot (λ seen. has_actor seen.granularity seen.pool actor ≡ true)
  hold-actor = actor-there hall.opened.input s.sitting.view.now actor name named slot
      (subst (λ (m : Machine). ForSome slot (SlotSuits m s.sitting.view.now)) hold.of.input hold.knows.suits) listed

-- an arrival that is kept stays one of the hall's, where the front goes on
pub arrival-on : (hall : LockTable) (old new : Sitting) (kept : Option Arrival) → IsPrefix old.view.front new.view.front → IsArrivalOf hall (seated old kept) → IsArrivalOf hall (seated new kept)
arrival-on hall old new kept begins had = record { processor = had.processor; counted = counted-later hall.opened.input.config.granularity old.view.front new.view.front kept begins had.counted }

-- the seat has looked, and goes on holding the pool
pub hold-on : (hall : LockTable) (k n t : ℕ) (slot after : Option PoolSeen) (old new : Sitting) (kept : Option Arrival) → InHold hall k n t slot (seated old kept) → SeatStays old new
    → HoldsOnly k new.view → KnowsPool k after new.view → HasName k n new.view → new.view.now ≡ old.view.now → IsPrefix old.view.front new.view.front → InHold hall k n t after (seated new kept)
hold-on hall k n t slot after old new kept hold stays only knows has now begins = record {
  of = of-hall hall old new hold.of stays;
  only = only;
  knows = knows;
  has = has;
  now = hold.now ∙ sym now;
  inside = arrival-on hall old new kept begins hold.inside;
}

-- the hold that was begun
pub begun : (hall : LockTable) (holder : Holder) (old new : Sitting) (found : Option Hold) (hold : Hold) → found ≡ Some hold → IfSome found (λ x. BeginsHold hall holder x old new) → BeginsHold hall holder hold old new
begun hall holder old new found hold is some = subst (λ (o : Option Hold). IfSome o (λ x. BeginsHold hall holder x old new)) is some

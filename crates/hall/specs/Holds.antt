-- What a hold is: a seat has the lock of one pool, and does acts there while nobody else has the pool.
use Rattle.std.specs.Prelude.{ℕ, ◌≡◌, ◌<◌, ◌∷◌, [], List, Option, Some, None, true}
use Rattle.std.specs.Option.{ForSome}
use Rattle.sched_model.specs.declared.action.Actor.{Actor}
use Rattle.sched_model.specs.declared.action.Actor.TheVariants.{Proc, Dom, Tool}
use Rattle.sched_model.specs.declared.event.Event.{Event}
use Rattle.sched_model.specs.declared.machine.Machine.{Machine}
use Rattle.journal_core.specs.Books.{Chronicle}
use Rattle.journal_core.specs.Parts.{tool_lock}
use Rattle.pool_core.specs.Seen.{Seen as PoolSeen}
use Rattle.lock_moves.specs.Sets.{HasName, LockTable}
use Rattle.lock_moves.specs.SeatSight.{Sitting}
use Rattle.lock_moves.specs.Words.{name_number}
use Rattle.hall.specs.declared.hold.Hold.{Hold}
use Rattle.hall.specs.declared.hold.Holder.{Holder}
use Rattle.hall.specs.declared.seat.Arrival.{Arrival}
use Rattle.hall.specs.declared.turns.Done.TheVariants as done
use Rattle.hall.specs.BookTurns.{HoldsOnly, IsNamed}
use Rattle.hall.specs.SeatKnowledge.{KnowsPool}
use Rattle.hall.specs.Seats.{IsCounted, IsOf, Seated, Stays}
use Rattle.hall.specs.Steps.{HasTakenBook, KeepsOthers, KeepsSight}
use Rattle.hall.specs.Turns.{IsDone, is_actor}

-- the actor is a processor or a domain, whose events are those of one pool
abbrev pub IsOfSomePool : Actor → Type 0
IsOfSomePool (Proc p) = Unit {0}
IsOfSomePool (Dom d) = Unit {0}
IsOfSomePool Tool = ⊥

-- the seat has seen and done no more, and keeps the same arrival
pub record IsAsBefore (old new : Seated) : Type 0 where
  pub sight : KeepsSight old.sitting new.sitting
  pub arrived : new.arrived ≡ old.arrived

-- the seat has done one act of the actor, whose entry has this place
pub record HasActedOnce (actor : Actor) (place : ℕ) (old new : Seated) : Type 0 where
  pub stays : Stays old new
  pub event : Event
  pub done : IsDone actor (done.Event place event) old new

-- the first place where one more comes behind others, of which this was the first
abbrev pub first_with : ℕ → Option ℕ → Option ℕ
first_with place None = Some place
first_with place (Some first) = Some first

-- the last number of the list, if it has one
abbrev pub last_of : List ℕ → Option ℕ
last_of [] = None
last_of (place ∷ places) = first_with place (last_of places)

-- the seat that sits so and keeps this arrival
abbrev pub seated : Sitting → Option Arrival → Seated
seated s arrived = record { sitting = s; arrived = arrived }

-- the arrival, if one is kept, is that of a processor of the hall's input, with no more decisions before it than the front has
pub record IsArrivalOf (hall : LockTable) (s : Seated) : Type 0 where
  pub processor : ForSome s.arrived (λ a. a.p.0 < hall.opened.input.config.processors)
  pub counted : ForSome s.arrived (IsCounted hall.opened.input.config.granularity s.sitting.view.front)

-- the seat of the hall holds the lock k of a pool alone, whose place this is and which has the name n, at the moment t
pub record InHold (hall : LockTable) (k n t : ℕ) (slot : Option PoolSeen) (s : Seated) : Type 0 where
  pub of : IsOf hall s
  pub only : HoldsOnly k s.sitting.view
  pub knows : KnowsPool k slot s.sitting.view
  pub has : HasName k n s.sitting.view
  pub now : t ≡ s.sitting.view.now
  pub inside : IsArrivalOf hall s

-- the same of a seat that has the book b in its hands, which it took when it sat as `mid`
pub record InHoldOn (hall : LockTable) (k n t : ℕ) (slot : Option PoolSeen) (b : Chronicle) (mid : Sitting) (s : Seated) : Type 0 where
  pub hold : InHold hall k n t slot (seated mid s.arrived)
  pub took : HasTakenBook hall b mid s.sitting

-- the seat knows this place under the lock k, has the names for the lock that it had, and of every other lock knows what it knew
pub record StaysAtPool (k : ℕ) (slot : Option PoolSeen) (old new : Sitting) : Type 0 where
  pub knows : KnowsPool k slot new.view
  pub names : (n : ℕ) → HasName k n old.view → HasName k n new.view
  pub others : KeepsOthers k old.view new.view

-- whose pool a hold is of: an actor of some pool of the input, and its name
pub record IsHolder (m : Machine) (holder : Holder) : Type 0 where
  pub named : IsNamed m holder.actor holder.name
  pub actor : is_actor m.config holder.actor ≡ true

-- the seat, which held nothing, has taken the lock of the holder's pool and no more
pub record BeginsHold (hall : LockTable) (holder : Holder) (hold : Hold) (old new : Sitting) : Type 0 where
  pub low : hold.lock.0 < tool_lock
  pub sight : KeepsSight old new
  pub held : (arrived : Option Arrival) → IsArrivalOf hall (seated old arrived) → InHold hall hold.lock.0 (name_number holder.name) hold.t.0 hold.slot (seated new arrived)

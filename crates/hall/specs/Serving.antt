-- What a hold of a whole pool does: events of actors that the pool has, one after the other, while nobody else has the pool.
use Rattle.std.specs.Prelude.{ℕ, ◌≡◌, ◌⊎◌, ◌∷◌, [], true, List, Option, Some, None, length}
use Rattle.std.specs.Option.{ForSome}
use Rattle.sched_model.specs.declared.action.Action.{Action}
use Rattle.sched_model.specs.declared.action.Actor.{Actor}
use Rattle.sched_model.specs.declared.event.Event.{Event}
use Rattle.sched_model.specs.declared.state.Pool.{Pool}
use Rattle.sched_model.specs.declared.state.State.{State}
use Rattle.sched_model.specs.Places.{at_place}
use Rattle.journal_core.specs.Books.{Chronicle}
use Rattle.journal_core.specs.Histories.{state_at}
use Rattle.composition_laws.specs.Actors.{has_actor}
use Rattle.pool_laws.specs.Actors.{IsFirstBy}
use Rattle.pool_laws.specs.FirstEvents.{IsFirstEnabled}
use Rattle.pool_core.specs.Seen.{Seen as PoolSeen}
use Rattle.lock_moves.specs.SeatSight.{Sitting}
use Rattle.hall.specs.declared.turns.Acted.{Acted}
use Rattle.hall.specs.declared.turns.Full.{Full}
use Rattle.hall.specs.Holds.{HasActedOnce, IsAsBefore, IsOfSomePool, last_of}
use Rattle.hall.specs.Seats.{SeatStays, Seated, Stays}
use Rattle.hall.specs.Turns.{ActsFull, HasNothing, is_actor}

-- some pool of the state has both actors. g is the number of a core's processors
pub record AreTogether (g : ℕ) (s : State) (actor other : Actor) : Type 0 where
  pub place : ℕ
  pub pool : Pool
  pub at : at_place s.pools place ≡ Some pool
  pub has : has_actor g pool actor ≡ true
  pub too : has_actor g pool other ≡ true

-- the seat has done one act of the doer, an actor of the input, whose entry has this place; the pool of `actor` has the doer too, where the entry stands
pub record IsServed (actor doer : Actor) (place : ℕ) (old new : Seated) : Type 0 where
  pub is : is_actor old.sitting.view.input.config doer ≡ true
  pub some : IsOfSomePool doer
  pub once : HasActedOnce doer place old new
  pub together : AreTogether old.sitting.view.input.config.granularity (state_at old.sitting.view.input once.done.0) actor doer

abbrev pub HasServedOnce : Actor → ℕ → Seated → Seated → Type 0
HasServedOnce actor place old new = (doer : Actor) × IsServed actor doer place old new

-- the seat has done so many such acts, one after the other; the places of their entries, the last one first
abbrev pub Serves : Actor → List ℕ → Seated → Seated → Type 0
Serves actor [] old new = IsAsBefore old new
Serves actor (place ∷ places) old new = (mid : Seated) × Serves actor places old mid × HasServedOnce actor place mid new

-- the seat has done all that the pool of the actor might do: so many acts, the first of which added the entry at the place that is answered; and then
-- it looked, and nothing might come of the actor, nor of any other that its pool has
pub record HasServed (actor : Actor) (acted : Acted) (old new : Seated) : Type 0 where
  pub places : List ℕ
  pub mid : Seated
  pub serves : Serves actor places old mid
  pub stays : Stays mid new
  pub nothing : HasNothing actor mid.sitting.view new.sitting.view
  pub others : (other : Actor) → AreTogether mid.sitting.view.input.config.granularity (state_at mid.sitting.view.input new.sitting.view.front) actor other → HasNothing other mid.sitting.view new.sitting.view
  pub arrived : new.arrived ≡ mid.arrived
  pub count : acted.count ≡ length places
  pub first : acted.first ≡ last_of places

-- the same up to where the book was found full, and an act of the doer might come, which the pool of the actor has too
pub record HasServedFull (actor : Actor) (full : Full) (old new : Seated) : Type 0 where
  pub places : List ℕ
  pub mid : Seated
  pub serves : Serves actor places old mid
  pub stays : Stays mid new
  pub doer : Actor
  pub is : is_actor mid.sitting.view.input.config doer ≡ true
  pub some : IsOfSomePool doer
  pub together : AreTogether mid.sitting.view.input.config.granularity (state_at mid.sitting.view.input new.sitting.view.front) actor doer
  pub full_is : ActsFull doer full mid.sitting.view new.sitting.view
  pub arrived : new.arrived ≡ mid.arrived

-- the seat has looked, and no pool has the actor, of which nothing may come; it holds nothing, as before
pub record FindsNoPool (actor : Actor) (old new : Sitting) : Type 0 where
  pub stays : SeatStays old new
  pub free : new.view.held ≡ []
  pub nothing : HasNothing actor old.view new.view
  pub alone : (other : Actor) → AreTogether old.view.input.config.granularity (state_at old.view.input new.view.front) actor other → ⊥

-- an act whose event this is, and whose entry is the last of the book b
pub record HasServedOn (actor doer : Actor) (place : ℕ) (event : Event) (b : Chronicle) (old new : Seated) : Type 0 where
  pub served : IsServed actor doer place old new
  pub event_is : served.once.event ≡ event
  pub front : new.sitting.view.front ≡ b.history

-- the pool of the place has the actor, whose first action this is at t
pub record IsDoerOf (slot : Option PoolSeen) (t : ℕ) (action : Action) (actor : Actor) : Type 0 where
  pub has : ForSome slot (λ seen. has_actor seen.granularity seen.pool actor ≡ true)
  pub first : ForSome slot (λ seen. IsFirstBy seen.granularity t seen.pool actor (Some action))

-- an actor's first event at t in the pool of the place
abbrev pub IsSomebodys : Option PoolSeen → ℕ → Action → Type 0
IsSomebodys slot t action = (actor : Actor) × ForSome slot (λ seen. IsFirstBy seen.granularity t seen.pool actor (Some action))

-- what may come next in the pool of the place at t: the first event of an actor, or the first of all; and none where none may
abbrev pub MayComeNext : Option PoolSeen → ℕ → Option Action → Type 0
MayComeNext slot t None = ForSome slot (λ seen. IsFirstEnabled seen.granularity t seen.pool None)
MayComeNext slot t (Some action) = IsSomebodys slot t action ⊎ ForSome slot (λ seen. IsFirstEnabled seen.granularity t seen.pool (Some action))

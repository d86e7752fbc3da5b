-- The workers of a hall, and what they do in a moment.
use Rattle.std.specs.Prelude.{◌≡◌, ◌≤◌, ◌<◌, ◌+◌, ◌-◌, ◌%◌, ◌⊎◌, ◌++◌, ◌∷◌, [], ℕ, List, Some, None, length, slice_index_or}
use Rattle.std.specs.List.{All, sum_by}
use mathlib.Core.List.{IsPrefix}
use Rattle.sched_base.specs.Numbers.{domain, processor}
use Rattle.sched_base.specs.declared.ProcId.{ProcId}
use Rattle.sched_model.specs.declared.action.Action.{Action}
use Rattle.sched_model.specs.declared.action.Actor.{Actor}
use Rattle.sched_model.specs.declared.action.Actor.TheVariants.{Proc, Dom, Tool}
use Rattle.sched_model.specs.declared.event.Entry.{Entry}
use Rattle.sched_model.specs.declared.machine.Machine.{Machine}
use Rattle.journal_core.specs.Histories.{state_at}
use Rattle.composition_laws.specs.Actors.{first_by}
use Rattle.lock_moves.specs.Sets.{LockTable, sitting_with}
use Rattle.lock_moves.specs.SeatSight.{after_join, newcomer}
use Rattle.hall.specs.declared.turns.Waits.TheVariants as waits
use Rattle.hall.specs.Seats.{IsOf, Seated, Stays}
use Rattle.hall.specs.Turns.{IsWaiting}
use Rattle.sched_model.specs.Runs.{action_entry}

-- how many of the 1024 parts the seats have together
abbrev pub shares_of : List Seated → ℕ
shares_of seats = sum_by (λ s. s.sitting.view.shares) seats

-- the seats are of the hall, one for each of its processors, of which there are 1 to 64
pub record OneEach (hall : LockTable) (workers : List Seated) : Type 0 where
  pub of : All (IsOf hall) workers
  pub count : length workers ≡ hall.opened.input.config.processors
  pub some : 1 ≤ length workers
  pub few : length workers ≤ 64

-- the seat is of the hall and has one worker for each processor; together they have all parts
pub record AreWorkers (hall : LockTable) (seat : Seated) (workers : List Seated) : Type 0 where
  pub of : IsOf hall seat
  pub each : OneEach hall workers
  pub shares : seat.sitting.view.shares + shares_of workers ≡ 1024

-- the seat that has given so many of its parts away
abbrev pub lessened_by : ℕ → Seated → Seated
lessened_by n s = record s { sitting = sitting_with s.sitting (record s.sitting.view { shares = s.sitting.view.shares - n }) }

-- the worker was split from the seat, and has done nothing yet
pub record IsNew (from worker : Seated) : Type 0 where
  pub view : worker.sitting.view ≡ newcomer from.sitting.view
  pub arrived : worker.arrived ≡ None

-- the seat that has taken in another one
abbrev pub taken_in : Seated → Seated → Seated
taken_in worker s = record s { sitting = sitting_with s.sitting (after_join s.sitting.view worker.sitting.view) }

-- the same of several, the last of them first
abbrev pub all_taken_in : List Seated → Seated → Seated
all_taken_in [] s = s
all_taken_in (worker ∷ workers) s = taken_in worker (all_taken_in workers s)

-- the actors of the worker p of n: the processor p, and each domain whose number leaves p when it is divided by n
abbrev pub IsFor : ℕ → ℕ → Actor → Type 0
IsFor n p (Proc q) = q.0 ≡ p
IsFor n p (Dom d) = d.0 % n ≡ p
IsFor n p Tool = ⊥

-- the place of the history has the entry of the first action of the actor in the state in which it stands
pub record IsEventOf (m : Machine) (actor : Actor) (h : List Entry) (place : ℕ) : Type 0 where
  pub before : List Entry
  pub action : Action
  pub place_is : place ≡ length before
  pub first : first_by m (state_at m before) actor ≡ Some action
  pub begins : IsPrefix (before ++ action_entry m (state_at m before) action ∷ []) h

-- the seat has seen no more of the history, and has added nothing
pub record SeesSame (old new : Seated) : Type 0 where
  pub front : new.sitting.view.front ≡ old.sitting.view.front
  pub own : new.sitting.view.own ≡ old.sitting.view.own
  pub takes : old.sitting.view.takes ≤ new.sitting.view.takes

-- the worker p of n may work in the hall, which has n processors and so many domains
pub record MayWork (hall : LockTable) (n domains p : ℕ) (s : Seated) : Type 0 where
  pub of : IsOf hall s
  pub number : p < n
  pub few : n ≤ 64
  pub processors : n ≡ hall.opened.input.config.processors
  pub domains_are : domains ≡ length hall.opened.input.config.domains

-- the seat has gone on with the history, and each place that it has added is that of an entry of one of these actors
pub record Works (mine : Actor → Type 0) (old new : Seated) : Type 0 where
  pub stays : Stays old new
  pub begins : IsPrefix old.sitting.view.front new.sitting.view.front
  pub added : List ℕ
  pub own : new.sitting.view.own ≡ old.sitting.view.own ++ added
  pub entries : All (λ place. (actor : Actor) × mine actor × IsEventOf old.sitting.view.input actor new.sitting.view.front place) added
  pub takes : old.sitting.view.takes ≤ new.sitting.view.takes

-- the same for one actor alone
abbrev pub ActsAs : Actor → Seated → Seated → Type 0
ActsAs actor old new = Works (λ a. a ≡ actor) old new

-- at some history in between no event of the actor might come, or the book was full
pub record Rested (actor : Actor) (old new : Seated) : Type 0 where
  pub between : List Entry
  pub begins : IsPrefix old.sitting.view.front between
  pub goes_on : IsPrefix between new.sitting.view.front
  pub rests : (first_by old.sitting.view.input (state_at old.sitting.view.input between) actor ≡ None) ⊎ (length between ≡ old.sitting.view.limit)

-- after events of its own the processor was asked whether it still waits for its siblings, and it did: it had arrived, is not the first one of its
-- core, and the core had made no decision since
pub record HasWaited (hall : LockTable) (p : ProcId) (old new : Seated) : Type 0 where
  pub before : Seated
  pub after : Seated
  pub acts : ActsAs (Proc p) old before
  pub still : IsWaiting hall.opened.input.config.granularity p waits.Still before after
  pub goes_on : IsPrefix after.sitting.view.front new.sitting.view.front

-- the worker p of n has acted for its own actors alone: for the processor until it rested or waited for its siblings, and for each domain until it
-- rested; and it took the book
pub record HasWorked (hall : LockTable) (n domains p : ℕ) (old new : Seated) : Type 0 where
  pub works : Works (IsFor n p) old new
  pub took : old.sitting.view.takes < new.sitting.view.takes
  pub for_processor : Rested (Proc (processor p)) old new ⊎ HasWaited hall (processor p) old new
  pub for_domains : (d : ℕ) → d < domains → d % n ≡ p → Rested (Dom (domain d)) old new

-- each worker has done so
abbrev pub AllWorked : LockTable → ℕ → List Seated → List Seated → Type 0
AllWorked hall domains old new = (p : ℕ) (d : Seated) → p < length old → HasWorked hall (length old) domains p (slice_index_or old p d) (slice_index_or new p d)

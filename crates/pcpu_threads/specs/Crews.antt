-- The rows of seats with which the threads of a run act.
use Rattle.std.specs.Prelude.{◌≡◌, ◌≤◌, ◌<◌, ◌+◌, ◌-◌, ℕ, List, length, slice_index_or}
use Rattle.std.specs.List.{All}
use Rattle.sched_model.specs.declared.action.Actor.{Actor}
use Rattle.sched_model.specs.declared.action.Actor.TheVariants.{Proc, Dom, Tool}
use Rattle.lock_moves.specs.Sets.{LockTable}
use Rattle.hall.specs.Seats.{IsOf, Seated, shares_in}
use Rattle.pcpu_threads.specs.Workers.{IsFor, OneEach, Works, shares_of}

-- a seat of the hall with one of its parts
pub record IsHand (hall : LockTable) (s : Seated) : Type 0 where
  pub of : IsOf hall s
  pub one : shares_in s ≡ 1

-- a row is so wide: a seat for each processor of the hall, of which there are 1 to 64, and one more; the number is that of the hall's domains
pub record IsWide (hall : LockTable) (domains wide : ℕ) : Type 0 where
  pub count : wide ≡ hall.opened.input.config.processors + 1
  pub some : 1 ≤ hall.opened.input.config.processors
  pub few : wide ≤ 65
  pub domains_are : domains ≡ length hall.opened.input.config.domains

-- a thread's row: the seat p is one of the worker p, and the last one ends moments
pub record IsRow (hall : LockTable) (domains : ℕ) (seats : List Seated) : Type 0 where
  pub hands : All (IsHand hall) seats
  pub wide : IsWide hall domains (length seats)

-- the seats are of the hall, one worker for each processor, and together they have more parts than rows ever want
pub record AreCrew (hall : LockTable) (seat : Seated) (workers : List Seated) : Type 0 where
  pub of : IsOf hall seat
  pub each : OneEach hall workers
  pub enough : 976 ≤ shares_in seat + shares_of workers

-- the actor is one of some worker of n
abbrev pub HasWorker : ℕ → Actor → Type 0
HasWorker n actor = (p : ℕ) × (p < n) × IsFor n p actor

-- the seats of a row have acted for workers: each place that one has added is that of the first action of an actor that some worker has
abbrev pub ActsForWorkers : List Seated → List Seated → Type 0
ActsForWorkers old new = (w : ℕ) (d : Seated) → w < length old → Works (HasWorker (length old - 1)) (slice_index_or old w d) (slice_index_or new w d)

-- the actor is one of so many processors or domains
abbrev pub IsAmong : ℕ → ℕ → Actor → Type 0
IsAmong processors domains (Proc p) = p.0 < processors
IsAmong processors domains (Dom d) = d.0 < domains
IsAmong processors domains Tool = ⊥

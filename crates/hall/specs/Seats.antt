-- How contracts see the seat of a hall, and what a call asks of it.
use Rattle.std.specs.Prelude.{ℕ, ◌≡◌, ◌<◌, ◌≤◌, ◌/◌, ◌==◌, List, [], Option, Some, None, if◌then◌else◌}
use Rattle.std.specs.Option.{ForSome}
use Rattle.sched_model.specs.declared.event.Entry.{Entry}
use Rattle.sched_model.specs.declared.event.Event.{Event}
use Rattle.sched_model.specs.declared.event.Event.TheVariants as event
use Rattle.sched_model.specs.declared.machine.Machine.{Machine}
use Rattle.sched_model.specs.CheckedMachine.{IsChecked}
use Rattle.journal_core.specs.Histories.{decides_at}
use Rattle.lock_moves.specs.Sets.{LockTable}
use Rattle.lock_moves.specs.SeatSight.{Sitting}
use Rattle.hall.specs.declared.seat.Arrival.{Arrival}

-- a seat: what it has seen and holds, and its last arrival that it keeps, if it keeps one
pub record Seated : Type 0 where
  pub sitting : Sitting
  pub arrived : Option Arrival

-- how many of the 1024 parts of the history the seat has
abbrev pub shares_in : Seated → ℕ
shares_in s = s.sitting.view.shares

-- the arrival's number of decisions is at most that of its core in the front. g is the number of a core's processors
abbrev pub IsCounted : ℕ → List Entry → Arrival → Type 0
IsCounted g front a = a.decides ≤ decides_at front (a.p.0 / g)

-- between two calls a seat holds no lock, and an arrival that it keeps is one of a processor of the input, with no more decisions before it than the front has
pub record SitsFree (s : Sitting) (arrived : Option Arrival) : Type 0 where
  pub nothing : s.view.held ≡ []
  pub processor : ForSome arrived (λ a. a.p.0 < s.view.input.config.processors)
  pub counted : ForSome arrived (IsCounted s.view.input.config.granularity s.view.front)

-- the seat is one of the hall
pub record IsSeatOf (hall : LockTable) (s : Sitting) : Type 0 where
  pub table : s.table ≡ hall.table
  pub input : s.view.input ≡ hall.opened.input
  pub limit : s.view.limit ≡ hall.opened.limit

abbrev pub IsOf : LockTable → Seated → Type 0
IsOf hall s = IsSeatOf hall s.sitting

-- what no call changes but split and join: the seat is of the same hall, and has as many of the 1024 parts
pub record SeatStays (old new : Sitting) : Type 0 where
  pub table : new.table ≡ old.table
  pub input : new.view.input ≡ old.view.input
  pub limit : new.view.limit ≡ old.view.limit
  pub shares : new.view.shares ≡ old.view.shares

abbrev pub Stays : Seated → Seated → Type 0
Stays old new = SeatStays old.sitting new.sitting

-- the input has passed the checks, and these are the numbers of it that a hall keeps
pub record IsHallOf (m : Machine) (granularity horizon : ℕ) : Type 0 where
  pub checked : IsChecked m
  pub granularity_is : granularity ≡ m.config.granularity
  pub horizon_is : horizon ≡ m.config.horizon.0

-- the arrival that a seat keeps after an event of its own: that of an Arrive, with the number of decisions of its core before it, until
-- the processor leaves. g is the number of a core's processors
abbrev pub kept_arrival : ℕ → List Entry → Event → Option Arrival → Option Arrival
kept_arrival g before (event.Arrive p) kept = Some (record { p = p; decides = decides_at before (p.0 / g) })
kept_arrival g before (event.Leave p v) None = None
kept_arrival g before (event.Leave p v) (Some a) = (if a.p.0 == p.0 then None else Some a)
kept_arrival g before _ kept = kept

-- where the event is an arrival, the number is that of the decisions of its core in the history before it
abbrev pub IsCountBefore : ℕ → List Entry → Event → ℕ → Type 0
IsCountBefore g before (event.Arrive p) decides = decides ≡ decides_at before (p.0 / g)
IsCountBefore g before _ decides = Unit {0}

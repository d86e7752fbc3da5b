-- The caller and the workers of a run.
use Rattle.std.specs.Prelude.{◌≡◌, ◌+◌, ℕ, length}
use Rattle.std.specs.List.{All}
use Rattle.lock_moves.specs.Sets.{LockTable}
use Rattle.hall.specs.Seats.{IsOf, shares_in}
use Rattle.pcpu_threads.specs.Crews.{AreCrew}
use Rattle.pcpu_threads.specs.Workers.{shares_of}
use Rattle.pcpu_watch.specs.declared.crew.Crew.{Crew}

-- how many of the 1024 parts the crew has
abbrev pub parts_of : Crew → ℕ
parts_of c = shares_in c.seat + shares_of c.workers.items

-- the seats are of the hall, one worker for each processor, and have nearly all parts; the number is that of the hall's domains
pub record IsCrew (hall : LockTable) (c : Crew) : Type 0 where
  pub seats : AreCrew hall c.seat c.workers.items
  pub domains : c.domains ≡ length hall.opened.input.config.domains

-- the seats that are left once a crew has gone through the run are of the hall
pub record AreLeft (hall : LockTable) (c : Crew) : Type 0 where
  pub of : IsOf hall c.seat
  pub each : All (IsOf hall) c.workers.items

-- the crew has gone through the run
pub record HasRun (hall : LockTable) (old new : Crew) : Type 0 where
  pub left : AreLeft hall new
  pub parts : parts_of new ≡ parts_of old

-- The seats of a watched run.
use Rattle.std.specs.Prelude.{◌≡◌, ◌+◌, List}
use Rattle.lock_moves.specs.Sets.{LockTable}
use Rattle.hall.specs.Seats.{IsOf, Seated, shares_in}
use Rattle.pcpu_threads.specs.Workers.{OneEach, shares_of}

-- the caller's seat, one worker for each processor, and the scribe's seat, which has one part: they are of the hall, and together they have all parts
pub record AreSeats (hall : LockTable) (seat : Seated) (workers : List Seated) (scribe : Seated) : Type 0 where
  pub of : IsOf hall seat
  pub each : OneEach hall workers
  pub of_scribe : IsOf hall scribe
  pub one : shares_in scribe ≡ 1
  pub shares : (shares_in seat + shares_of workers) + shares_in scribe ≡ 1024

-- the same of the two that are left, once the workers are joined
pub record AreTwo (hall : LockTable) (seat scribe : Seated) : Type 0 where
  pub of : IsOf hall seat
  pub of_scribe : IsOf hall scribe
  pub shares : shares_in seat + shares_in scribe ≡ 1024

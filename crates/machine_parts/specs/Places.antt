-- What holds of the places of a machine's pools: each is the part of its number in the state that a trail leads to.
use Rattle.std.specs.Prelude.{ℕ, ◌≡◌, ◌≢◌, ◌≤◌, ◌<◌, false, List, Option, Some, None, length, option_map}
use Rattle.std.specs.Option.{ForSome}
use Rattle.sched_model.specs.declared.machine.Machine.{Machine}
use Rattle.sched_model.specs.declared.state.Pool.{Pool}
use Rattle.sched_model.specs.declared.state.State.{State}
use Rattle.sched_model.specs.CheckedMachine.{IsChecked}
use Rattle.sched_model.specs.Places.{at_place}
use Rattle.sched_model.specs.Runs.{IsRun}
use Rattle.journal_core.specs.Parts.{StatePart, pool_part}
use Rattle.journal_core.specs.Histories.{reached_by, state_at, part_at}
use Rattle.pool_core.specs.Seen.{Seen}
use Rattle.machine_parts.specs.Told.{Told}

-- the run has come so far, and is not over
pub record GoesOn (w : Told) : Type 0 where
  pub checked : IsChecked w.input
  pub run : IsRun w.input w.history
  pub goes : (reached_by w.input w.history).over ≡ false

-- the state that the history leads to. It stays folded: what stands above knows it by the laws of states alone
unfoldable pub state_of : Told → State
state_of w = state_at w.input w.history

-- the part of the state that a place is: its pool, or nothing
abbrev pub slot_part : Option Seen → StatePart
slot_part None = pool_part None
slot_part (Some seen) = pool_part (Some seen.pool)

-- the pool's cores have as many processors as the machine's, and no later moment was given to it
pub record SlotSuits (m : Machine) (now : ℕ) (seen : Seen) : Type 0 where
  pub granularity : seen.granularity ≡ m.config.granularity
  pub latest : seen.latest ≤ now

-- the place with another pool, where it has one
abbrev pub with_pool : (Seen → Pool) → Option Seen → Option Seen
with_pool f slot = option_map (λ (seen : Seen). let next : Seen = record seen { pool = f seen } in next) slot

-- the place is the part i of that state, and its pool, if it has one, suits it
pub record StandsAt (w : Told) (i : ℕ) (slot : Option Seen) : Type 0 where
  pub place : i < 16
  pub part : slot_part slot ≡ part_at w.input w.history i
  pub suits : ForSome slot (SlotSuits w.input (state_of w).now)

-- the 16 places of a machine's pools, each the part of its number
pub record AllStand (w : Told) (slots : List (Option Seen)) : Type 0 where
  pub count : length slots ≡ 16
  pub each : (k : ℕ) → k < 16 → StandsAt w k (at_place slots k)

-- one trail has gone on from another by an event of the pool i: at the same moment, and every part but that pool is as before
pub record HasStepped (w : Told) (i : ℕ) (next : Told) : Type 0 where
  pub goes : GoesOn next
  pub now : (state_of next).now ≡ (state_of w).now
  pub others : (k : ℕ) → k ≢ i → part_at next.input next.history k ≡ part_at w.input w.history k

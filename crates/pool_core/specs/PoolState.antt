-- What a pool's state keeps of its parts.
use Rattle.std.specs.Prelude.{ℕ, ◌≡◌, ◌≤◌, true, List, Option}
use Rattle.sched_base.specs.declared.Moment.{Moment}
use Rattle.sched_model.specs.declared.state.Pool.{Pool}
use Rattle.sched_model.specs.CheckedMachine.{most_span}
use Rattle.sched_model.specs.Places.{at_place}
use Rattle.pool_laws.specs.ReadyMoments.{work_end}
use Rattle.pool_laws.specs.CoreLooks.{IsSettled}
use Rattle.policy_laws.specs.Holds.{Holds}
use Rattle.unit_state.specs.Seen as guests
use Rattle.core_state.specs.Seen as cores
use Rattle.sched_ops.specs.Seen as schedulers
use Rattle.pool_core.specs.declared.settling.Mark.{Mark}
use Rattle.pool_core.specs.Seen.{pool_of}

-- for each processor stands the moment at which the work of the vCPU that it runs is done
abbrev pub AreWorks : ℕ → List (Option Moment) → Pool → Type 0
AreWorks g works pool = (p : ℕ) → at_place works p ≡ work_end g pool p

-- the parts belong together: cores have as many processors as units have vCPUs, no part was given a later moment, and each unit for which the
-- guests have room is one for which the scheduler has
pub record AreLinked (t : ℕ) (guests : guests.Seen) (cores : cores.Seen) (scheduler : schedulers.Seen) : Type 0 where
  pub granularity : cores.granularity ≡ guests.granularity
  pub guests_latest : guests.latest ≤ t
  pub scheduler_latest : scheduler.latest ≤ t
  pub early : t ≤ most_span
  pub spare : guests.spare ≤ scheduler.spare
  pub works : AreWorks guests.granularity cores.works (pool_of guests cores scheduler)

-- beside that, what is kept of every pool
pub record IsKept (t : ℕ) (guests : guests.Seen) (cores : cores.Seen) (scheduler : schedulers.Seen) : Type 0 where
  pub linked : AreLinked t guests cores scheduler
  pub pool : Holds guests.granularity t (pool_of guests cores scheduler)

-- so it is at the mark's moment, and where the mark says so, looking at the cores then changes nothing
pub record IsAtRest (mark : Mark) (guests : guests.Seen) (cores : cores.Seen) (scheduler : schedulers.Seen) : Type 0 where
  pub kept : IsKept mark.latest.0 guests cores scheduler
  pub settled : mark.settled ≡ true → IsSettled mark.latest.0 (pool_of guests cores scheduler)

-- What an event of a processor does to the guests and the cores.
use Rattle.std.specs.Prelude.{ℕ, ◌≡◌, ◌≤◌, ◌/◌, List, Option, Some, None}
use Rattle.sched_base.specs.declared.Moment.{Moment}
use Rattle.sched_base.specs.declared.VcpuId.{VcpuId}
use Rattle.sched_model.specs.declared.state.Doing.TheVariants as doing
use Rattle.sched_model.specs.declared.state.Domain.{Domain}
use Rattle.sched_model.specs.declared.state.Pool.{Pool}
use Rattle.sched_model.specs.Pool.{change_core, change_processor, with_doing, reopened_core, started_on}
use Rattle.unit_state.specs.Seen as guests
use Rattle.unit_state.specs.Seen.{done_among}
use Rattle.core_state.specs.Seen as cores
use Rattle.sched_ops.specs.Seen as schedulers
use Rattle.pool_core.specs.Seen.{pool_of}

-- the guests have no later moment than t, and their room and the number of a core's processors are as before
pub record IsMoved (t : ℕ) (guests guests_after : guests.Seen) (cores cores_after : cores.Seen) : Type 0 where
  pub granularity : guests_after.granularity ≡ guests.granularity
  pub spare : guests_after.spare ≡ guests.spare
  pub latest : guests_after.latest ≤ t
  pub processors : cores_after.granularity ≡ cores.granularity

-- the pool after the processor took the vCPU, if there is one, and left
abbrev pub parted_with : ℕ → ℕ → ℕ → Option VcpuId → Pool → Pool
parted_with g t p taken pool =
    change_core (p / g) reopened_core (elim taken [ None ↦ change_processor g p (with_doing doing.Idle) pool | Some v ↦ started_on g t p v pool ])

-- the guests and the cores are those of that pool
abbrev pub IsParting : ℕ → ℕ → Option VcpuId → guests.Seen → guests.Seen → cores.Seen → cores.Seen → Type 0
IsParting t p taken guests guests_after cores cores_after =
    (s : schedulers.Seen) → pool_of guests_after cores_after s ≡ parted_with guests.granularity t p taken (pool_of guests cores s)

-- the moment at which the work of the vCPU is done, if there is one
abbrev pub work_of : List (Option Domain) → Option VcpuId → Option Moment
work_of domains None = None
work_of domains (Some v) = done_among domains v

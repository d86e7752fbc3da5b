-- The machine, and words on its state.
use Rattle.std.specs.Prelude.{ℕ, ◌*◌, ◌&&◌, Bool, false, not, List, Option, Some, None, is_none, take, drop, nat_le}
use Rattle.std.specs.List.{list_any}
use Rattle.sched_base.specs.declared.UnitId.{UnitId}
use Rattle.sched_model.specs.declared.state.Processor.{Processor}
use Rattle.sched_model.specs.declared.state.Vcpu.{Vcpu}
use Rattle.sched_model.specs.declared.state.Domain.{Domain}
use Rattle.sched_model.specs.Places.{at_place}
pub use Rattle.sched_base.specs.CoreSets.{has_core_bit}
pub use Rattle.sched_model.specs.declared.machine.Machine.{Machine}
pub use Rattle.sched_model.specs.declared.state.FreeCore.{FreeCore}
pub use Rattle.sched_model.specs.declared.state.Credit2Unit.{Credit2Unit}
pub use Rattle.sched_model.specs.declared.state.Credit2Domain.{Credit2Domain}
pub use Rattle.sched_model.specs.declared.state.Credit2Records.{Credit2Records}
pub use Rattle.sched_model.specs.declared.state.RtdsUnit.{RtdsUnit}
pub use Rattle.sched_model.specs.declared.state.ArincRecords.{ArincRecords}
pub use Rattle.sched_model.specs.declared.state.Records.{Records}
pub use Rattle.sched_model.specs.declared.state.Scheduler.{Scheduler}
pub use Rattle.sched_model.specs.declared.state.Pool.{Pool}
pub use Rattle.sched_model.specs.declared.state.State.{State}

-- whether the vCPU is awake
abbrev pub is_awake : Vcpu → Bool
is_awake v = is_none v.asleep_until

-- the vCPUs of the unit with this index, where a unit has g of them
abbrev pub vcpus_of_unit : ℕ → Domain → ℕ → List Vcpu
vcpus_of_unit g d n = take g (drop (n * g) d.vcpus)

-- whether some vCPU of the unit is awake, and its domain is neither paused nor moving
abbrev pub unit_runnable : ℕ → Domain → ℕ → Bool
unit_runnable g d n = not d.paused && is_none d.moving && list_any is_awake (vcpus_of_unit g d n)

-- the same of a unit of one of these domains
abbrev pub runnable_among : ℕ → List (Option Domain) → UnitId → Bool
runnable_among g domains u = elim (at_place domains u.dom.0) [ None ↦ false | Some d ↦ unit_runnable g d u.n ]

abbrev pub may_unit_run : ℕ → Pool → UnitId → Bool
may_unit_run g pool u = runnable_among g pool.domains u

-- whether the processor is not stalled
abbrev pub is_not_stalled : ℕ → Processor → Bool
is_not_stalled t p = nat_le p.stall_end.0 t

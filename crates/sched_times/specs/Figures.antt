-- The times of a machine's entries, within a range.
use Rattle.std.specs.Prelude.{ℕ, not, List, reverse}
use Rattle.sched_base.specs.declared.UnitId.{UnitId}
use Rattle.sched_base.specs.declared.VcpuId.{VcpuId}
use Rattle.sched_base.specs.declared.ResId.{ResId}
use Rattle.sched_base.specs.declared.ProcId.{ProcId}
use Rattle.sched_model.specs.declared.config.Config.{Config}
use Rattle.sched_model.specs.declared.event.Entry.{Entry}
use Rattle.unit_places.specs.Places.{unit_index}
use Rattle.sched_times.specs.declared.range.Range.{Range}
use Rattle.sched_times.specs.Times.{time_while, told_of}
use Rattle.sched_times.specs.Present.{vcpu_place, core_grant, processor_grant, sleep_of, runs, waits, sleeps, is_used}

-- for how long the vCPU runs, waits and sleeps
abbrev pub run_of_vcpu : Range → Config → List Entry → VcpuId → ℕ
run_of_vcpu range config entries v = time_while (runs (processor_grant config.granularity) (unit_index (vcpu_place v))) range config entries

abbrev pub wait_of_vcpu : Range → Config → List Entry → VcpuId → ℕ
wait_of_vcpu range config entries v = time_while (waits (processor_grant config.granularity) sleep_of (unit_index (vcpu_place v))) range config entries

abbrev pub sleep_of_vcpu : Range → Config → List Entry → VcpuId → ℕ
sleep_of_vcpu range config entries v = time_while (sleeps (processor_grant config.granularity) sleep_of (unit_index (vcpu_place v))) range config entries

-- for how long the unit has a core
abbrev pub run_of_unit : Range → Config → List Entry → UnitId → ℕ
run_of_unit range config entries u = time_while (runs core_grant (unit_index u)) range config entries

-- for how long the core has a unit, and has none
abbrev pub run_of_core : Range → Config → List Entry → ResId → ℕ
run_of_core range config entries r = time_while (is_used core_grant r.0) range config entries

abbrev pub idle_of_core : Range → Config → List Entry → ResId → ℕ
idle_of_core range config entries r = time_while (λ before. not (is_used core_grant r.0 before)) range config entries

-- for how long the processor runs a vCPU
abbrev pub run_of_processor : Range → Config → List Entry → ProcId → ℕ
run_of_processor range config entries p = time_while (is_used (processor_grant config.granularity) p.0) range config entries

-- how much of the range the entries tell
abbrev pub told_time : Range → Config → List Entry → ℕ
told_time range config entries = told_of range config.horizon.0 (reverse entries)

-- how contracts see the times: the config of the machine, the range, and the entries that were told
pub record Told : Type 0 where
  pub config : Config
  pub range : Range
  pub entries : List Entry

abbrev pub told : Config → Range → List Entry → Told
told config range entries = record { config = config; range = range; entries = entries }

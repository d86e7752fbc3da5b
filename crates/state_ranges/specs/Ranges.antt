-- The ranges of the numbers of a state. Moments and spans are in nanoseconds.
use Rattle.std.specs.Prelude.{◌≡◌, ◌≤◌, ◌<◌, ◌+◌, ◌*◌, ℕ, List, Some, cond, is_some, slice_get, length}
use Rattle.std.specs.List.{All}
use Rattle.std.specs.Option.{IfSome}
use Rattle.sched_base.specs.declared.Moment.{Moment}
use Rattle.sched_base.specs.declared.Span.{Span}
use Rattle.sched_base.specs.declared.UnitId.{UnitId}
use Rattle.sched_model.specs.declared.config.DomConfig.{DomConfig}
use Rattle.sched_model.specs.declared.machine.Machine.{Machine}
use Rattle.sched_model.specs.declared.state.Vcpu.{Vcpu}
use Rattle.sched_model.specs.declared.state.Domain.{Domain}
use Rattle.sched_model.specs.declared.state.Processor.{Processor}
use Rattle.sched_model.specs.declared.state.Resource.{Resource}
use Rattle.sched_model.specs.declared.state.FreeCore.{FreeCore}
use Rattle.sched_model.specs.declared.state.Credit2Unit.{Credit2Unit}
use Rattle.sched_model.specs.declared.state.Records.{Records}
use Rattle.sched_model.specs.declared.state.Records.TheVariants.{Credit2Pool, RtdsPool, ArincPool, NullPool}
use Rattle.sched_model.specs.declared.state.Pool.{Pool}
use Rattle.sched_model.specs.declared.state.State.{State}
use Rattle.sched_model.specs.Opening.{machine_core_count, most_pools}
use Rattle.sched_model.specs.CheckedMachine.{most_span}
use Rattle.sched_laws.specs.EachPlace.{EachAt, EachPlace}
pub use Rattle.sched_laws.specs.RecordRanges.{RtdsInRange, Credit2UnitInRange, Credit2InRange, IsFrame}
use Rattle.sched_base.specs.Credit2Numbers.{positive_part}

-- the moment is at most a longest span after t
abbrev pub IsNear : ℕ → Moment → Type 0
IsNear t at = at.0 ≤ t + most_span

-- the moment has come at t
abbrev pub IsPast : ℕ → Moment → Type 0
IsPast t at = at.0 ≤ t

-- a vCPU with this script at t: its place in it, the end of its sleep, its work, and the moment from which that is counted
pub record VcpuInRange (t : ℕ) (script : List Span) (x : Vcpu) : Type 0 where
  pub follows : x.script ≡ script
  pub place : x.place < 64
  pub asleep : IfSome x.asleep_until (IsNear t)
  pub work : IfSome x.work_left (λ (w : Span). w.0 ≤ most_span)
  pub started : IfSome x.started (IsPast t)

-- the domain d of the file at t: it has all its vCPUs
pub record DomainInRange (m : Machine) (t d : ℕ) (x : Domain) : Type 0 where
  pub config : DomConfig
  pub at : slice_get m.config.domains d ≡ Some config
  pub count : length x.vcpus ≡ length config.guests
  pub vcpus : (n : ℕ) (y : Vcpu) (script : List Span) → slice_get x.vcpus n ≡ Some y → slice_get config.guests n ≡ Some script → VcpuInRange t script y

-- the unit is one of a domain of the file
pub record IsUnitOf (m : Machine) (u : UnitId) : Type 0 where
  pub config : DomConfig
  pub at : slice_get m.config.domains u.dom.0 ≡ Some config
  pub inside : u.n * m.config.granularity < length config.guests

-- a core at t: its units, its moments, and the ends of its processors' stalls
pub record CoreInRange (m : Machine) (t : ℕ) (c : Resource) : Type 0 where
  pub cur : IfSome c.cur (IsUnitOf m)
  pub saving : IfSome c.saving (IsUnitOf m)
  pub since : IsPast t c.since
  pub due : IfSome c.due (IsNear t)
  pub count : length c.processors ≡ m.config.granularity
  pub stalls : All (λ (p : Processor). IsNear t p.stall_end) c.processors

-- the records of a scheduler at t: a place for each domain or core, and their numbers
abbrev pub RecordsInRange : Machine → ℕ → Records → Type 0
RecordsInRange m t (Credit2Pool records) = (length records.domains ≡ length m.config.domains) × (records.limit ≤ 500000) × EachPlace (Credit2InRange t) records.domains
RecordsInRange m t (RtdsPool domains) = (length domains ≡ length m.config.domains) × EachPlace (All (RtdsInRange t)) domains
RecordsInRange m t (ArincPool records) = (records.installed ≤ t) × IfSome records.frame IsFrame
RecordsInRange m t (NullPool kept) = length kept ≡ machine_core_count m.config

-- a pool at t: a place for each domain and core of the machine, and all numbers of what it has
pub record PoolInRange (m : Machine) (t : ℕ) (pool : Pool) : Type 0 where
  pub domain_places : length pool.domains ≡ length m.config.domains
  pub core_places : length pool.resources ≡ machine_core_count m.config
  pub affinity_places : length pool.scheduler.affinity ≡ length m.config.domains
  pub queue_count : length pool.scheduler.queue ≤ 256
  pub queue : All (IsUnitOf m) pool.scheduler.queue
  pub domains : EachAt (DomainInRange m t) pool.domains
  pub cores : EachPlace (CoreInRange m t) pool.resources
  pub records : RecordsInRange m t pool.scheduler.records

-- a core of no pool at t
pub record FreeInRange (m : Machine) (t : ℕ) (c : FreeCore) : Type 0 where
  pub count : length c.stall_ends ≡ m.config.granularity
  pub stalls : All (IsNear t) c.stall_ends

-- a state: a place for each pool and core there may be, the lines of the work file that are done, and all numbers
pub record StateInRange (m : Machine) (s : State) : Type 0 where
  pub now : s.now ≤ m.config.horizon.0
  pub name_places : length s.names ≡ most_pools
  pub pool_places : length s.pools ≡ most_pools
  pub free_places : length s.free ≡ machine_core_count m.config
  pub stalls : s.next_stall ≤ length m.work.stalls
  pub commands : s.next_command ≤ length m.work.commands
  pub pools : EachPlace (PoolInRange m s.now) s.pools
  pub free : EachPlace (FreeInRange m s.now) s.free

-- what the unit holds of its domain's budget, where it runs
abbrev pub held_running : Credit2Unit → ℕ
held_running x = cond (is_some x.burned) (positive_part x.held) 0

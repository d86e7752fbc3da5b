-- What holds of one pool between its events.
use Rattle.std.specs.Prelude.{◌≡◌, ◌≤◌, ◌<◌, ℕ, true, Some, is_some, option_map, length}
use Rattle.std.specs.Option.{ForSome}
use Rattle.sched_base.specs.declared.Moment.{Moment}
use Rattle.sched_base.specs.declared.UnitId.{UnitId}
use Rattle.sched_base.specs.declared.VcpuId.{VcpuId}
use Rattle.sched_model.specs.declared.state.Resource.{Resource}
use Rattle.sched_model.specs.declared.state.Vcpu.{Vcpu}
use Rattle.sched_model.specs.declared.state.Pool.{Pool}
use Rattle.sched_model.specs.Places.{at_place}
use Rattle.sched_model.specs.Pool.{unit_core, running_guest, domain_unit_count, pool_vcpu}
use Rattle.sched_laws.specs.EachPlace.{EachPlace}
use Rattle.sched_laws.specs.PoolFacts.{IsKnownPool}
use Rattle.state_ranges.specs.Counts.{KeepsPool}
use Rattle.sched_ops.specs.Conditions.{is_member, is_on, may_unit_be_on}

-- the scheduler knows each domain of the pool with all its units, and no other
pub record HasMembers (g : ℕ) (pool : Pool) : Type 0 where
  pub places : length pool.scheduler.affinity ≡ length pool.domains
  pub units : (d : ℕ) → option_map length (at_place pool.scheduler.affinity d) ≡ option_map (domain_unit_count g) (at_place pool.domains d)

-- a core's own unit and the one that it saves are units of domains that have joined
pub record HasMember (pool : Pool) (c : Resource) : Type 0 where
  pub cur : ForSome c.cur (λ u. is_member pool.scheduler u ≡ true)
  pub saving : ForSome c.saving (λ u. is_member pool.scheduler u ≡ true)

-- a core's own unit is on in the records, where they tell, and no other unit is
pub record AreOn (pool : Pool) : Type 0 where
  pub own : EachPlace (λ (c : Resource). ForSome c.cur (λ u. may_unit_be_on pool.scheduler.records u ≡ true)) pool.resources
  pub off : (u : UnitId) → is_on pool.scheduler.records u ≡ true → is_some (unit_core pool u) ≡ true

-- a vCPU that is started is run by a processor
abbrev pub HaveProcessors : ℕ → Pool → Type 0
HaveProcessors g pool = (v : VcpuId) (x : Vcpu) (from : Moment) → pool_vcpu pool v ≡ Some x → x.started ≡ Some from → (p : ℕ) × (running_guest g pool p ≡ Some v)

-- what is kept of a pool at t; g is the number of a core's processors
pub record Holds (g t : ℕ) (pool : Pool) : Type 0 where
  pub some : 0 < g
  pub known : IsKnownPool g pool
  pub records : KeepsPool g pool
  pub members : HasMembers g pool
  pub units : EachPlace (HasMember pool) pool.resources
  pub on : AreOn pool
  pub started : HaveProcessors g pool
  pub since : EachPlace (λ (c : Resource). c.since.0 ≤ t) pool.resources

-- What is kept of a pool: its units are its domains', its cores are sound, and each unit has one place.
use Rattle.std.proofs.Common.{◌≡◌, true, List, ℕ, false, ◌⊎◌, ◌≤◌}
use Rattle.std.specs.List.{AllByRecursion, list_any}
use Rattle.std.specs.Prelude.{Option, Some, None, is_none, ◌+◌, ◌%◌, slice_get}
use Rattle.std.specs.Option.{IfSome}
use Rattle.sched_base.specs.declared.UnitId.{UnitId}
use Rattle.sched_model.specs.Places.{test_at}
use Rattle.sched_base.specs.declared.VcpuId.{VcpuId}
use Rattle.sched_model.specs.declared.state.Domain.{Domain}
use Rattle.sched_model.specs.declared.state.Doing.TheVariants.{Guest}
use Rattle.sched_model.specs.declared.state.Processor.{Processor}
use Rattle.sched_model.specs.declared.state.Resource.{Resource}
use Rattle.sched_model.specs.declared.state.Pool.{Pool}
use Rattle.sched_model.specs.State.{may_unit_run, runnable_among}
use Rattle.sched_model.specs.Pool as pools
use Rattle.sched_model.specs.Pool.{decided_core as decided}
use Rattle.sched_laws.specs.EachPlace.{EachPlace}
use Rattle.sched_laws.specs.Counts.{total, one_at, times}

-- the unit, if there is one, has the property
abbrev pub IfUnit : (UnitId → Type 0) → Option UnitId → Type 0
IfUnit P o = IfSome o P

-- the unit is one of these domains'; and its domain is not moving
abbrev pub IsThere : List (Option Domain) → UnitId → Type 0
IsThere domains u = test_at domains u.dom.0 (λ d. true) ≡ true

abbrev pub IsStaying : List (Option Domain) → UnitId → Type 0
IsStaying domains u = test_at domains u.dom.0 (λ d. is_none d.moving) ≡ true

-- the core's units are of these domains
pub record CoreIsOwn (domains : List (Option Domain)) (c : Resource) : Type 0 where
  pub cur : IfUnit (IsThere domains) c.cur
  pub saving : IfUnit (IsThere domains) c.saving

pub record UnitsAreOwn (pool : Pool) : Type 0 where
  pub queue : AllByRecursion (IsStaying pool.domains) pool.scheduler.queue
  pub cores : EachPlace (CoreIsOwn pool.domains) pool.resources

-- the processors of a core, and its stage
pub record CoreIsSound (g : ℕ) (c : Resource) : Type 0 where
  pub guests : (i : ℕ) (p : Processor) (v : VcpuId) → slice_get c.processors i ≡ Some p → p.doing ≡ Guest v → (c.cur ≡ Some (pools.vcpu_unit g v)) × (v.n % g ≡ i)
  pub decided : pools.is_gathering c ≡ false → list_any pools.is_held_back c.processors ≡ true
  pub gathers : pools.is_gathering c ≡ true → list_any pools.is_held_back c.processors ≡ true → (c.pending ≡ true) × (c.saving ≡ None)

abbrev pub AreSound : ℕ → Pool → Type 0
AreSound g pool = EachPlace (CoreIsSound g) pool.resources

-- how many places the core gives the unit
abbrev pub core_places : UnitId → Resource → ℕ
core_places u c = one_at u c.cur + one_at u c.saving

-- how often the unit stands in the pool's queue, in a cur and in a saving
abbrev pub places : Pool → UnitId → ℕ
places pool u = times u pool.scheduler.queue + total (core_places u) pool.resources

-- the core's own unit is runnable, or the core is to decide anew
abbrev pub CurRuns : ℕ → List (Option Domain) → Resource → Type 0
CurRuns g domains c = (u : UnitId) → c.cur ≡ Some u → (runnable_among g domains u ≡ true) ⊎ (c.pending ≡ true)

-- each unit has at most one place; a runnable one has a place, or is one of those that are yet to get one; those that wait are runnable
pub record OneBut (g : ℕ) (Rest : UnitId → Type 0) (pool : Pool) : Type 0 where
  pub most : (u : UnitId) → places pool u ≤ 1
  pub runs : (u : UnitId) → may_unit_run g pool u ≡ true → (1 ≤ places pool u) ⊎ Rest u
  pub waits : AllByRecursion (λ u. may_unit_run g pool u ≡ true) pool.scheduler.queue
  pub cur : EachPlace (CurRuns g pool.domains) pool.resources

abbrev pub OnePlace : ℕ → Pool → Type 0
OnePlace g pool = OneBut g (λ u. ⊥) pool

-- what is kept of a pool
pub record IsKnownPool (g : ℕ) (pool : Pool) : Type 0 where
  pub own : UnitsAreOwn pool
  pub sound : AreSound g pool
  pub one : OnePlace g pool

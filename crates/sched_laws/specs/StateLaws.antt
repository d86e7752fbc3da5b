-- What holds in every state of a run.
use Rattle.std.specs.Prelude.{◌≡◌, ◌≤◌, ◌%◌, ℕ, Bool, true, false, List, Some, None, is_some, slice_get}
use Rattle.std.specs.List.{All}
use Rattle.std.specs.Option.{IfSome, ForSome}
use Rattle.sched_base.specs.declared.UnitId.{UnitId}
use Rattle.sched_base.specs.declared.VcpuId.{VcpuId}
use Rattle.sched_model.specs.declared.event.Entry.{Entry}
use Rattle.sched_model.specs.declared.state.Doing.TheVariants.{Guest}
use Rattle.sched_model.specs.declared.state.Processor.{Processor}
use Rattle.sched_model.specs.declared.state.Resource.{Resource}
use Rattle.sched_model.specs.Places.{at_place, test_at}
use Rattle.sched_model.specs.declared.machine.Machine.{Machine}
use Rattle.sched_model.specs.declared.state.State.{State}
use Rattle.sched_model.specs.declared.state.Pool.{Pool}
use Rattle.sched_model.specs.State.{may_unit_run}
use Rattle.sched_laws.specs.Laws.{count, runs_somewhere}
use Rattle.sched_model.specs.Pool.{vcpu_unit}
use Rattle.sched_model.specs.Actions.{home_pool_of_core, home_pool_of_domain}
use Rattle.sched_model.specs.Runs.{run_start, after_entries}
use Rattle.sched_laws.specs.EachPlace.{EachAt, EachPlace}
use Rattle.sched_model.specs.declared.action.Action.{Action}
use Rattle.sched_model.specs.declared.action.Action.TheVariants.{Moved, DomMoved}

-- the state that the entries lead to
abbrev pub state_after : Machine → List Entry → State
state_after m entries = (after_entries m (run_start m) entries).state

-- the home of the unit's domain is the pool i
abbrev pub IsOfPool : State → ℕ → UnitId → Type 0
IsOfPool s i u = home_pool_of_domain s u.dom.0 ≡ Some i

-- the units that wait in the pool i, and those of its cores, are of domains of the pool
pub record UnitsAreOfPool (s : State) (i : ℕ) (pool : Pool) : Type 0 where
  pub queue : All (IsOfPool s i) pool.scheduler.queue
  pub cur : EachPlace (λ (c : Resource). IfSome c.cur (IsOfPool s i)) pool.resources
  pub saving : EachPlace (λ (c : Resource). IfSome c.saving (IsOfPool s i)) pool.resources

-- whether the pool i has the core r
abbrev pub has_core_at : State → ℕ → ℕ → Bool
has_core_at s i r = test_at s.pools i (λ pool. is_some (at_place pool.resources r))

-- whether the pool i has the domain d
abbrev pub has_domain_at : State → ℕ → ℕ → Bool
has_domain_at s i d = test_at s.pools i (λ pool. is_some (at_place pool.domains d))

-- the pools have units of their own alone, no core and no domain is in two pools, and a free core, which keeps nothing but a target and
-- the ends of stalls, is in none
pub record PoolsKeepTheirOwn (s : State) : Type 0 where
  pub units : EachAt (UnitsAreOfPool s) s.pools
  pub cores : (i j r : ℕ) → has_core_at s i r ≡ true → has_core_at s j r ≡ true → i ≡ j
  pub domains : (i j d : ℕ) → has_domain_at s i d ≡ true → has_domain_at s j d ≡ true → i ≡ j
  pub free : (r : ℕ) → ForSome (at_place s.free r) (λ c. home_pool_of_core s r ≡ None)

-- a processor that runs a vCPU has its core run that vCPU's unit, and stands at the vCPU's place in it
pub record RunsItsUnit (g : ℕ) (core : Resource) (i : ℕ) (p : Processor) : Type 0 where
  pub unit : (v : VcpuId) → p.doing ≡ Guest v → core.cur ≡ Some (vcpu_unit g v)
  pub place : (v : VcpuId) → p.doing ≡ Guest v → v.n % g ≡ i

-- each processor does, so two processors of a core that run vCPUs run vCPUs of one unit
abbrev pub SiblingsRunOneUnit : ℕ → State → Type 0
SiblingsRunOneUnit g s = EachPlace (λ (pool : Pool). EachPlace (λ (c : Resource). (i : ℕ) → ForSome (slice_get c.processors i) (RunsItsUnit g c i)) pool.resources) s.pools

-- a unit stands at one place at most, among all queues, cores and savings, and at one where it is runnable;
-- those that wait are runnable; and a core whose own unit is not runnable is to decide anew
pub record UnitsHaveOnePlace (g : ℕ) (s : State) : Type 0 where
  pub most : (u : UnitId) → count s u ≤ 1
  pub runnable : (u : UnitId) → runs_somewhere g s u ≡ true → count s u ≡ 1
  pub waits : EachPlace (λ (pool : Pool). All (λ u. may_unit_run g pool u ≡ true) pool.scheduler.queue) s.pools
  pub pending : EachPlace (λ (pool : Pool). EachPlace (λ (c : Resource). IfSome c.cur (λ u. may_unit_run g pool u ≡ false → c.pending ≡ true)) pool.resources) s.pools

-- the action moves no core and no domain
abbrev pub MovesNothing : Action → Type 0
MovesNothing (Moved r) = ⊥
MovesNothing (DomMoved d) = ⊥
MovesNothing _ = Unit {0}

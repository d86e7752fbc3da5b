-- What holds of the cores that the null scheduler gives to units.
use Rattle.sched_base.specs.Numbers.{core as core_number}
use Rattle.std.specs.Prelude.{◌≡◌, ◌⊎◌, ℕ, true, false, List, Option, Some, None}
use Rattle.std.specs.List.{list_all}
use Rattle.sched_base.specs.declared.UnitId.{UnitId}
use Rattle.sched_model.specs.declared.event.Event.{Event}
use Rattle.sched_model.specs.declared.event.Event.TheVariants as event
use Rattle.sched_model.specs.declared.event.Entry.{Entry}
use Rattle.sched_model.specs.declared.action.Action.TheVariants.{Decide}
use Rattle.sched_model.specs.declared.state.Pool.{Pool}
use Rattle.sched_model.specs.declared.state.State.{State}
use Rattle.sched_model.specs.declared.state.Resource.{Resource}
use Rattle.sched_model.specs.declared.state.Records.TheVariants.{NullPool}
use Rattle.sched_model.specs.Places.{at_place}
use Rattle.sched_model.specs.State.{may_unit_run, is_not_stalled}
use Rattle.sched_model.specs.EligibleUnits.{is_unit_allowed, is_unit_placed}
use Rattle.sched_model.specs.Pool.{pool_core_set}
use Rattle.sched_model.specs.Runs.{event_action}
use Rattle.sched_laws.specs.EachPlace.{EachPlace}

-- the pool is one of the null scheduler, which keeps these units for its cores
abbrev pub Keeps : Pool → List (Option UnitId) → Type 0
Keeps pool kept = pool.scheduler.records ≡ NullPool kept

-- the null pool has given its core r to the unit: it keeps the core for the unit, which is allowed there
pub record IsGiven (pool : Pool) (r : ℕ) (u : UnitId) : Type 0 where
  pub kept : List (Option UnitId)
  pub keeps : Keeps pool kept
  pub placed : is_unit_placed pool.scheduler kept (pool_core_set pool) r u ≡ true

-- no two cores of a null pool are given to the same unit
abbrev pub NoUnitHasTwoCores : State → Type 0
NoUnitHasTwoCores s = EachPlace (λ (pool : Pool). (q r : ℕ) (u : UnitId) → IsGiven pool q u → IsGiven pool r u → q ≡ r) s.pools

-- the unit that a Decide puts on its core
abbrev pub chosen_by : Event → Option UnitId
chosen_by (event.Decide core unit due late reset) = unit
chosen_by _ = None

-- the core may lose its unit: it is leaving, or the unit is not runnable, or is not allowed there
abbrev pub MayLose : ℕ → Pool → ℕ → Resource → UnitId → Type 0
MayLose g pool r core u = (core.leaving ≡ true) ⊎ (may_unit_run g pool u ≡ false) ⊎ (is_unit_allowed pool.scheduler (pool_core_set pool) r u ≡ false)

-- the entry is a Decide of the core r of this null pool
pub record DecidesIn (s : State) (entry : Entry) (pool : Pool) (r : ℕ) (core : Resource) : Type 0 where
  pub i : ℕ
  pub at : at_place s.pools i ≡ Some pool
  pub kept : List (Option UnitId)
  pub keeps : Keeps pool kept
  pub core_at : at_place pool.resources r ≡ Some core
  pub decides : event_action entry.event ≡ Some (Decide (core_number r))

-- a Decide of a core of a null pool keeps the core's unit, unless the core may lose it
abbrev pub StayEndsWithCause : ℕ → State → Entry → Type 0
StayEndsWithCause g s entry = (pool : Pool) (r : ℕ) (core : Resource) (u : UnitId) → DecidesIn s entry pool r core → core.cur ≡ Some u → (chosen_by entry.event ≡ Some u) ⊎ MayLose g pool r core u

-- a unit that was given a core goes on no other: a Decide that puts it on a core is one of the core that it was given
abbrev pub GivenUnitsGoNowhereElse : State → Entry → Type 0
GivenUnitsGoNowhereElse s entry = (pool : Pool) (q r : ℕ) (core : Resource) (u : UnitId) → DecidesIn s entry pool r core → IsGiven pool q u → chosen_by entry.event ≡ Some u → q ≡ r

-- the core has the unit, unless it is leaving or a processor of it is stalled
abbrev pub RunsUnlessHindered : ℕ → UnitId → Resource → Type 0
RunsUnlessHindered t u core = core.leaving ≡ false → list_all (is_not_stalled t) core.processors ≡ true → core.cur ≡ Some u

-- each runnable unit that a null pool has given a core is that core's own
abbrev pub GivenUnitsRun : ℕ → State → Type 0
GivenUnitsRun g s =
    EachPlace (λ (pool : Pool). (r : ℕ) (u : UnitId) → IsGiven pool r u → may_unit_run g pool u ≡ true → (core : Resource) × (at_place pool.resources r ≡ Some core) × RunsUnlessHindered s.now u core) s.pools

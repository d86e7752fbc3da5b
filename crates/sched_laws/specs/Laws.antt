-- What holds in every state of a run, as tests that compute.
use Rattle.std.specs.Prelude.{ℕ, zero, suc, ◌+◌, ◌%◌, ◌==◌, ◌&&◌, ◌||◌, Bool, true, false, not, Option, Some, None, is_some, is_none, sum_by, count_by, if◌then◌else◌, nat_le}
use Rattle.std.specs.List.{list_any, list_all, enumerate_from}
use Rattle.sched_base.specs.declared.UnitId.{UnitId}
use Rattle.sched_model.specs.declared.state.Doing.TheVariants.{Guest, Idle, Held}
use Rattle.sched_model.specs.declared.state.Processor.{Processor}
use Rattle.sched_model.specs.declared.state.Resource.{Resource}
use Rattle.sched_model.specs.Places.{at_place, numbered_items, is_unit, same_unit}
use Rattle.sched_model.specs.declared.state.Records.{Records}
use Rattle.sched_model.specs.declared.state.Pool.{Pool}
use Rattle.sched_model.specs.declared.state.State.{State}
use Rattle.sched_model.specs.declared.machine.Machine.{Machine}
use Rattle.sched_model.specs.State.{may_unit_run, is_not_stalled}
use Rattle.sched_model.specs.declared.state.Records.TheVariants.{Credit2Pool, RtdsPool, ArincPool, NullPool}
use Rattle.sched_model.specs.EligibleUnits.{is_unit_eligible, is_unit_allowed}
use Rattle.sched_model.specs.Rtds.{is_unit_before}
use Rattle.sched_model.specs.Pool.{pool_core_set, is_held_back, is_gathering, vcpu_unit}
use Rattle.sched_model.specs.Actions.{units_from}
use Rattle.sched_model.specs.Machine.{first_enabled_action, after, next_in_horizon}

-- whether the first implies the second
abbrev pub implies : Bool → Bool → Bool
implies a b = not a || b

-- how often the unit stands in the pool's queue, in a cur and in a saving
abbrev pub count_in : Pool → UnitId → ℕ
count_in pool u =
    count_by (same_unit u) pool.scheduler.queue
    + sum_by (λ e. (if is_unit e.1.cur u then 1 else 0) + (if is_unit e.1.saving u then 1 else 0)) (numbered_items 0 pool.resources)

-- how often it stands in all pools
abbrev pub count : State → UnitId → ℕ
count s u = sum_by (λ e. count_in e.1 u) (numbered_items 0 s.pools)

-- whether the unit is runnable in the pool that has its domain
abbrev pub runs_somewhere : ℕ → State → UnitId → Bool
runs_somewhere g s u = list_any (λ e. may_unit_run g e.1 u) (numbered_items 0 s.pools)

-- the unit has at most one place, and one where it is runnable; a unit that is not runnable does not wait
abbrev pub has_one_place : ℕ → State → UnitId → Bool
has_one_place g s u =
    nat_le (count s u) 1
    && implies (runs_somewhere g s u) (count s u == 1)
    && implies (not (runs_somewhere g s u)) (not (list_any (λ e. list_any (same_unit u) e.1.scheduler.queue) (numbered_items 0 s.pools)))

-- a core whose own unit is not runnable is to decide anew
abbrev pub cur_runs : ℕ → Pool → Resource → Bool
cur_runs g pool c = elim c.cur [ None ↦ true | Some u ↦ may_unit_run g pool u || c.pending ]

-- the i-th processor of the core runs a vCPU of the core's unit, and the one at its place
abbrev pub is_own_guest : ℕ → Resource → ℕ × Processor → Bool
is_own_guest g c e = elim e.1.doing [ Guest v ↦ is_unit c.cur (vcpu_unit g v) && v.n % g == e.0 | Idle ↦ true | Held ↦ true ]

-- the unit that stands there, if any does, is of a domain of the pool
abbrev pub is_of_pool : Pool → Option UnitId → Bool
is_of_pool pool None = true
is_of_pool pool (Some u) = is_some (at_place pool.domains u.dom.0)

-- the stage of the core fits its processors, its mark and its saved unit
abbrev pub stage_fits : Resource → Bool
stage_fits c =
    implies (not (is_gathering c)) (list_any is_held_back c.processors)
    && implies (is_gathering c && list_any is_held_back c.processors) (c.pending && is_none c.saving)

-- all that holds of a core of the pool
abbrev pub is_sound_core : ℕ → Pool → Resource → Bool
is_sound_core g pool c = cur_runs g pool c && list_all (is_own_guest g c) (enumerate_from 0 c.processors) && is_of_pool pool c.cur && is_of_pool pool c.saving && stage_fits c

-- all that holds of a pool
abbrev pub is_sound_pool : ℕ → Pool → Bool
is_sound_pool g pool = list_all (λ e. is_sound_core g pool e.1) (numbered_items 0 pool.resources) && list_all (λ u. is_of_pool pool (Some u)) pool.scheduler.queue

-- all that holds of a state
abbrev pub is_sound : Machine → State → Bool
is_sound m s =
    list_all (has_one_place m.config.granularity s) (units_from m.config.granularity 0 m.config.domains)
    && list_all (λ e. is_sound_pool m.config.granularity e.1) (numbered_items 0 s.pools)

-- whether the unit runs before the core's own, where the pool is one of RTDS
abbrev pub is_more_urgent : Records → UnitId → UnitId → Bool
is_more_urgent (Credit2Pool records) cur u = false
is_more_urgent (RtdsPool domains) cur u = is_unit_before domains u cur
is_more_urgent (ArincPool records) cur u = false
is_more_urgent (NullPool kept) cur u = false

-- nobody waits for the core without need: it does not idle while a unit is eligible, its own unit is allowed, and none is more urgent
abbrev pub keeps_none_waiting : ℕ → Pool → ℕ × Resource → Bool
keeps_none_waiting t pool e =
    implies (not e.1.leaving && list_all (is_not_stalled t) e.1.processors) (elim e.1.cur [
      | None ↦ not (list_any (is_unit_eligible pool.scheduler (pool_core_set pool) e.0 t) pool.scheduler.queue)
      | Some cur ↦
          is_unit_allowed pool.scheduler (pool_core_set pool) e.0 cur
          && not (list_any (λ u. is_unit_eligible pool.scheduler (pool_core_set pool) e.0 t u && is_more_urgent pool.scheduler.records cur u) pool.scheduler.queue)
    ])

-- no core keeps a unit waiting without need
abbrev pub is_quiet : State → Bool
is_quiet s = list_all (λ e. list_all (keeps_none_waiting s.now e.1) (numbered_items 0 e.1.resources)) (numbered_items 0 s.pools)

-- every state of the ordered run is sound, and quiet before each End and Finish
abbrev pub ordered_run_is_sound : ℕ → Machine → State → Bool
ordered_run_is_sound zero m s = is_sound m s
ordered_run_is_sound (suc entries) m s =
    elim (is_sound m s) [
      | false ↦ false
      | true ↦ elim (first_enabled_action m s s.now) [
        | Some action ↦ ordered_run_is_sound entries m (after m s s.now action)
        | None ↦ elim (is_quiet s) [
          | false ↦ false
          | true ↦ elim (next_in_horizon m s) [ Some next ↦ ordered_run_is_sound entries m (record s { now = next }) | None ↦ true ]
        ]
      ]
    ]

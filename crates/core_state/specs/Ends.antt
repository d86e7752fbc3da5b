-- From which moment on an event of a pool's cores may come: what the laws of a pool's events say, of the cores alone.
use Rattle.std.specs.Prelude.{ℕ, ◌/◌, ◌&&◌, not, true, false, Bool, List, Option, Some, None, is_some}
use Rattle.std.specs.List.{list_any, list_all}
use Rattle.sched_base.specs.declared.Moment.{Moment}
use Rattle.sched_model.specs.declared.action.Action.{Action}
use Rattle.sched_model.specs.declared.action.Action.TheVariants.{Moved, Block, Slice, Arrive, Decide, Leave, Save}
use Rattle.sched_model.specs.declared.state.Processor.{Processor}
use Rattle.sched_model.specs.declared.state.Resource.{Resource}
use Rattle.sched_model.specs.Places.{at_place, first_place}
use Rattle.sched_model.specs.Pool.{is_held_back, is_gathering}
use Rattle.pool_laws.specs.ReadyMoments.{guarded_moment, later_of, end_of, end_where, slice_moment, may_core_move, may_gather}
use Rattle.core_state.specs.Seen.{Seen, processor_among}

-- the end of the stall of the pool's lowest processor, where these are the cores
abbrev pub lowest_among : List (Option Resource) → Option Moment
lowest_among cores = elim (first_place 0 (λ c. true) cores) [ None ↦ None | Some r ↦ end_where (λ c. true) (at_place cores r) ]

-- the end of the stall of a core's processor, where both are there and each passes its test
abbrev pub sibling_end : (Resource → Bool) → (Processor → Bool) → Option Resource → Option Processor → Option Moment
sibling_end of_core of_processor core processor =
    elim core [ None ↦ None | Some c ↦ guarded_moment (of_core c) (elim processor [ None ↦ None | Some q ↦ guarded_moment (of_processor q) (Some q.stall_end) ]) ]

-- the same of a processor, where these are the cores
abbrev pub sibling_among : ℕ → List (Option Resource) → ℕ → (Resource → Bool) → (Processor → Bool) → Option Moment
sibling_among g cores p of_core of_processor = sibling_end of_core of_processor (at_place cores (p / g)) (processor_among g cores p)

-- from when on the processor p may arrive, where these are the cores
abbrev pub arrival_among : ℕ → List (Option Resource) → ℕ → Option Moment
arrival_among g cores p = sibling_among g cores p may_gather (λ q. not (is_held_back q))

-- whether the core's processors may leave
abbrev pub may_core_part : Resource → Bool
may_core_part c = not (is_gathering c)

-- from when on it may leave
abbrev pub leaving_among : ℕ → List (Option Resource) → ℕ → Option Moment
leaving_among g cores p = sibling_among g cores p may_core_part is_held_back

-- whether the core, if there is one, is to decide anew
abbrev pub is_core_pending : Option Resource → Bool
is_core_pending None = false
is_core_pending (Some c) = c.pending

-- whether the core may decide
abbrev pub may_core_decide : Resource → Bool
may_core_decide c = list_all is_held_back c.processors && is_gathering c

-- whether the core may put away the unit that it saves
abbrev pub may_core_save : Resource → Bool
may_core_save c = is_some c.saving && not (list_any is_held_back c.processors)

-- from when on the action, if it is one of a core or a processor, may come
abbrev pub ready_among : Seen → Action → Option Moment
ready_among seen (Moved r) = end_where may_core_move (at_place seen.resources r.0)
ready_among seen (Block p) = later_of (at_place seen.works p.0) (end_of (processor_among seen.granularity seen.resources p.0))
ready_among seen (Slice r) = slice_moment (at_place seen.resources r.0)
ready_among seen (Arrive p) = arrival_among seen.granularity seen.resources p.0
ready_among seen (Decide r) = end_where may_core_decide (at_place seen.resources r.0)
ready_among seen (Leave p) = sibling_among seen.granularity seen.resources p.0 may_core_part is_held_back
ready_among seen (Save r) = end_where may_core_save (at_place seen.resources r.0)
ready_among seen _ = None

-- the same, but for a core that leaves the pool
abbrev pub ready_within : Seen → Action → Option Moment
ready_within seen (Moved r) = None
ready_within seen action = ready_among seen action

-- From which moment on an event of a pool may come, while nothing else happens.
use Rattle.sched_base.specs.Numbers.{moment}
use Rattle.std.specs.Prelude.{ℕ, ◌/◌, ◌||◌, ◌&&◌, Bool, true, false, not, [], ◌∷◌, Option, Some, None, is_none, is_some, max, if◌then◌else◌}
use Rattle.std.specs.List.{list_any, list_all}
use Rattle.sched_base.specs.declared.UnitId.{UnitId}
use Rattle.sched_base.specs.declared.Moment.{Moment}
use Rattle.sched_model.specs.declared.action.Action.{Action}
use Rattle.sched_model.specs.declared.action.Action.TheVariants.{Stall, Xl, Moved, DomMoved, Wake, Block, Slice, Repl, Refill, Arrive, Decide, Leave, Save}
use Rattle.sched_model.specs.declared.state.Resource.{Resource}
use Rattle.sched_model.specs.declared.state.Processor.{Processor}
use Rattle.sched_model.specs.declared.state.Pool.{Pool}
use Rattle.sched_model.specs.Places.{at_place, numbered_items, first_place, has_listed_unit}
use Rattle.sched_model.specs.Policy.{unit_rtds_record, next_refill_moment}
use Rattle.sched_model.specs.Pool.{is_held_back, is_gathering, is_domain_unit, pool_processor, pool_vcpu, running_guest, done_moment, unit_core}

-- a moment, under a condition
abbrev pub guarded_moment : Bool → Option Moment → Option Moment
guarded_moment condition at = (if condition then at else None)

-- the later of two moments, where both are there
abbrev pub later_of : Option Moment → Option Moment → Option Moment
later_of None b = None
later_of (Some a) None = None
later_of (Some a) (Some b) = Some (moment (max a.0 b.0))

-- the end of the stall of a processor
abbrev pub end_of : Option Processor → Option Moment
end_of None = None
end_of (Some p) = Some p.stall_end

-- the end of the stall of a core's first processor
abbrev pub first_stall_end : Resource → Option Moment
first_stall_end c = elim c.processors [ [] ↦ None | p ∷ ps ↦ Some p.stall_end ]

-- the end of the stall of the core's first processor, where the core passes a test
abbrev pub end_where : (Resource → Bool) → Option Resource → Option Moment
end_where test None = None
end_where test (Some c) = guarded_moment (test c) (first_stall_end c)

-- the end of the stall of the pool's lowest processor
abbrev pub lowest_stall_end : Pool → Option Moment
lowest_stall_end pool = elim (first_place 0 (λ c. true) pool.resources) [ None ↦ None | Some r ↦ end_where (λ c. true) (at_place pool.resources r) ]

-- from when on a core may leave the pool, where it may
abbrev pub may_core_move : Resource → Bool
may_core_move c = c.leaving && is_none c.cur && is_none c.saving && not c.pending && is_gathering c

-- from when on a vCPU's work is done, where it is run
abbrev pub work_end : ℕ → Pool → ℕ → Option Moment
work_end g pool p = elim (running_guest g pool p) [ None ↦ None | Some v ↦ elim (pool_vcpu pool v) [ None ↦ None | Some x ↦ done_moment x ] ]

-- the due of a core that is not pending
abbrev pub slice_moment : Option Resource → Option Moment
slice_moment None = None
slice_moment (Some c) = guarded_moment (not c.pending) (later_of c.due (first_stall_end c))

-- the deadline of an RTDS unit that waits or is on a core
abbrev pub deadline_of : Pool → UnitId → Option Moment
deadline_of pool u =
    guarded_moment (has_listed_unit pool.scheduler.queue u || is_some (unit_core pool u)) (elim (unit_rtds_record pool.scheduler.records u) [ None ↦ None | Some x ↦ Some (moment x.deadline) ])

-- the end of the stall of a processor of a core that passes a test, where the processor passes another
abbrev pub sibling_end : ℕ → Pool → ℕ → (Resource → Bool) → (Processor → Bool) → Option Moment
sibling_end g pool p of_core of_processor =
    elim (at_place pool.resources (p / g)) [
      | None ↦ None
      | Some c ↦ guarded_moment (of_core c) (elim (pool_processor g pool p) [ None ↦ None | Some q ↦ guarded_moment (of_processor q) (Some q.stall_end) ])
    ]

-- whether the core's processors may arrive
abbrev pub may_gather : Resource → Bool
may_gather c = c.pending && is_gathering c && is_none c.saving

-- from when on the action may come in the pool
abbrev pub ready_in : ℕ → Pool → Action → Option Moment
ready_in g pool Stall = None
ready_in g pool Xl = None
ready_in g pool (Moved r) = end_where may_core_move (at_place pool.resources r.0)
ready_in g pool (DomMoved d) =
    guarded_moment (elim (at_place pool.domains d.0) [ None ↦ false | Some x ↦ is_some x.moving ] && not (list_any (λ e. is_domain_unit d.0 e.1.cur || is_domain_unit d.0 e.1.saving) (numbered_items 0 pool.resources))) (Some (moment 0))
ready_in g pool (Wake v) = elim (pool_vcpu pool v) [ None ↦ None | Some x ↦ x.asleep_until ]
ready_in g pool (Block p) = later_of (work_end g pool p.0) (end_of (pool_processor g pool p.0))
ready_in g pool (Slice r) = slice_moment (at_place pool.resources r.0)
ready_in g pool (Repl u) = later_of (deadline_of pool u) (lowest_stall_end pool)
ready_in g pool (Refill d) = later_of (next_refill_moment pool.scheduler.records d.0) (lowest_stall_end pool)
ready_in g pool (Arrive p) = sibling_end g pool p.0 may_gather (λ q. not (is_held_back q))
ready_in g pool (Decide r) = end_where (λ c. list_all is_held_back c.processors && is_gathering c) (at_place pool.resources r.0)
ready_in g pool (Leave p) = sibling_end g pool p.0 (λ c. not (is_gathering c)) is_held_back
ready_in g pool (Save r) = end_where (λ c. is_some c.saving && not (list_any is_held_back c.processors)) (at_place pool.resources r.0)

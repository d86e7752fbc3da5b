-- What callers see of a pool's cores, and what a change of one core or one processor makes of it.
use Rattle.std.specs.Prelude.{ℕ, zero, suc, ◌/◌, ◌%◌, true, max, List, [], Option, Some, None, replicate, slice_get, slice_set}
use Rattle.sched_base.specs.Numbers.{moment}
use Rattle.sched_base.specs.declared.Moment.{Moment}
use Rattle.sched_base.specs.declared.UnitId.{UnitId}
use Rattle.sched_model.specs.declared.state.Pool.{Pool}
use Rattle.sched_model.specs.declared.state.Processor.{Processor}
use Rattle.sched_model.specs.declared.state.Records.TheVariants.{NullPool}
use Rattle.sched_model.specs.declared.state.Resource.{Resource}
use Rattle.sched_model.specs.EligibleUnits.{Decision}
use Rattle.sched_model.specs.Places.{at_place, change_at, clear_at}
use Rattle.sched_model.specs.Pool.{decided_core}
pub use Rattle.pool_records.specs.Cores.{leaving_core, stalled_to, with_sibling}

-- the cores by number, for each processor the moment at which the work of the vCPU that it runs is done, and a core's processors
pub record Seen : Type 0 where
  pub resources : List (Option Resource)
  pub works : List (Option Moment)
  pub granularity : ℕ

-- no core at so many places, of g processors each
abbrev pub vacant_cores : ℕ → ℕ → Seen
vacant_cores g places = record { resources = replicate places None; works = replicate 64 None; granularity = g }

-- the core changed by f
abbrev pub changed_core : ℕ → (Resource → Resource) → Seen → Seen
changed_core r f seen = record seen { resources = change_at r f seen.resources }

-- the processor changed by f
abbrev pub changed_processor : ℕ → (Processor → Processor) → Seen → Seen
changed_processor p f seen = changed_core (p / seen.granularity) (with_sibling (p % seen.granularity) f) seen

-- the moment at which the processor's work is done
abbrev pub with_work : ℕ → Option Moment → Seen → Seen
with_work p work seen = record seen { works = slice_set seen.works p work }

-- the works with none for the processor p and those after it, count in all
abbrev pub cleared_works : ℕ → ℕ → List (Option Moment) → List (Option Moment)
cleared_works p zero works = works
cleared_works p (suc count) works = cleared_works (suc p) count (clear_at p works)

-- the core is to decide anew, and at this moment at the latest
abbrev pub pending_by : Moment → Resource → Resource
pending_by due c = record c { pending = true; due = Some due }

-- the core with what was decided at t
abbrev pub chosen_core : ℕ → Option UnitId → Option Moment → Resource → Resource
chosen_core t unit due c = let decision : Decision = record { unit = unit; due = due; reset = 0; records = NullPool [] } in decided_core t decision c

-- the i-th processor of a core, if there is a core
abbrev pub core_sibling : Option Resource → ℕ → Option Processor
core_sibling core i = elim core [ None ↦ None | Some c ↦ slice_get c.processors i ]

-- the processor, where these are the cores and each has g of them
abbrev pub processor_among : ℕ → List (Option Resource) → ℕ → Option Processor
processor_among g cores p = core_sibling (at_place cores (p / g)) (p % g)

-- the end of a stall of the processor up to this moment: no earlier than that of the stall that it has
abbrev pub extended_stall_end : Option Processor → Moment → Moment
extended_stall_end None end = end
extended_stall_end (Some q) end = moment (max q.stall_end.0 end.0)

-- what is seen of the cores of a pool
abbrev pub seen_in : ℕ → List (Option Moment) → Pool → Seen
seen_in g works pool = record { resources = pool.resources; works = works; granularity = g }

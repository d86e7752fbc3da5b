-- The ends of stalls.
use Rattle.std.specs.Prelude.{ℕ, ◌/◌, ◌%◌, List, Option, Some, None, slice_get, max}
use Rattle.sched_base.specs.Numbers.{moment}
use Rattle.sched_base.specs.declared.Moment.{Moment}
use Rattle.sched_model.specs.declared.state.FreeCore.{FreeCore}
use Rattle.sched_model.specs.declared.state.Pool.{Pool}
use Rattle.sched_model.specs.Places.{at_place, change_at, change_item}
use Rattle.sched_model.specs.Pool.{pool_processor}

-- the later of the end and that of the processor's stall, where the pool has the processor
abbrev pub later_end_in_pool : ℕ → Pool → ℕ → ℕ → ℕ
later_end_in_pool g pool p end = elim (pool_processor g pool p) [ None ↦ end | Some q ↦ max q.stall_end.0 end ]

-- the same of a pool that may not be there
abbrev pub later_end_at_home : ℕ → Option Pool → ℕ → ℕ → ℕ
later_end_at_home g None p end = end
later_end_at_home g (Some pool) p end = later_end_in_pool g pool p end

-- the later of the end and that at this place
abbrev pub later_end_among : List Moment → ℕ → ℕ → ℕ
later_end_among ends i end = elim (slice_get ends i) [ None ↦ end | Some old ↦ max old.0 end ]

-- the same of a processor of a core of no pool
abbrev pub later_end_in_free : ℕ → List (Option FreeCore) → ℕ → ℕ → ℕ
later_end_in_free g free p end = elim (at_place free (p / g)) [ None ↦ end | Some c ↦ later_end_among c.stall_ends (p % g) end ]

-- the end at this place set
abbrev pub ends_to : ℕ → ℕ → List Moment → List Moment
ends_to i end ends = change_item i (λ old. moment end) ends

-- the same of a processor of a core of no pool
abbrev pub free_to : ℕ → ℕ → ℕ → List (Option FreeCore) → List (Option FreeCore)
free_to g p end free = change_at (p / g) (λ (c : FreeCore). record c { stall_ends = ends_to (p % g) end c.stall_ends }) free

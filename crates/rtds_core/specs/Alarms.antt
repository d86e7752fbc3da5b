-- The armed timers, by the ids of their units: 32 for each domain.
use Rattle.std.specs.Prelude.{ℕ, suc, ◌/◌, ◌%◌, List, [], ◌∷◌, Option, Some, None, slice_set}
use Rattle.sched_base.specs.declared.Moment.{Moment}
use Rattle.sched_base.specs.declared.UnitId.{UnitId}
use Rattle.sched_base.specs.Units.{unit_id}
use Rattle.sched_ops.specs.declared.timer.Timer.TheVariants.{Repl}
use Rattle.due_heap.specs.Dues.{armed_moment}
use Rattle.sched_ops.specs.Timers.{Armed}
use Rattle.unit_places.specs.Places.{unit_index}

-- the unit of an id
abbrev pub unit_of_id : ℕ → UnitId
unit_of_id id = unit_id (id / 32) (id % 32)

-- the timer of an id, where it has a due
abbrev pub timer_of : List (Option Moment) → ℕ → Option Armed
timer_of dues id = elim (armed_moment dues id) [ None ↦ None | Some at ↦ Some (at, Repl (unit_of_id id)) ]

-- the timers of the ids that have a due, in order of id; the first id is n
abbrev pub armed_timers : ℕ → List (Option Moment) → List Armed
armed_timers n [] = []
armed_timers n (None ∷ dues) = armed_timers (suc n) dues
armed_timers n (Some at ∷ dues) = (at, Repl (unit_of_id n)) ∷ armed_timers (suc n) dues

-- the dues with one unit's armed, or disarmed
abbrev pub with_due : UnitId → Option Moment → List (Option Moment) → List (Option Moment)
with_due u due dues = slice_set dues (unit_index u) due

-- Which cores a unit that comes to wait makes decide anew.
use Rattle.std.specs.Prelude.{ℕ, ◌&&◌, Bool, false, not, List, Option, Some, None, is_none}
use Rattle.sched_base.specs.declared.UnitId.{UnitId}
use Rattle.sched_model.specs.declared.state.Resource.{Resource}
use Rattle.sched_model.specs.declared.state.Scheduler.{Scheduler}
use Rattle.sched_model.specs.EligibleUnits.{is_core_given, is_unit_allowed}
use Rattle.sched_ops.specs.WantedCores.{is_asked}

-- whether a core stands there, is asked, and idles
abbrev pub is_idle : Option Resource → Bool
is_idle None = false
is_idle (Some c) = is_asked c && is_none c.cur

-- whether a core with this unit of its own is open to a unit that is given no core: it idles and is given to none, and the unit may be on it
abbrev pub is_open_to : Scheduler → List (Option UnitId) → ℕ → ℕ → UnitId → Option UnitId → Bool
is_open_to scheduler kept home core u None = is_unit_allowed scheduler home core u && not (is_core_given scheduler kept home core)
is_open_to scheduler kept home core u (Some own) = false

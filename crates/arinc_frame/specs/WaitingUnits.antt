-- The unit of a window, among the units of a pool.
use Rattle.std.specs.Prelude.{ℕ, ◌&&◌, Bool, false, not, Option, Some, None, if◌then◌else◌}
use Rattle.sched_base.specs.declared.UnitId.{UnitId}
use Rattle.sched_model.specs.declared.ask.Ask.{Ask}
use Rattle.sched_model.specs.Places.{has_listed_unit, is_unit, same_unit}
use Rattle.sched_model.specs.EligibleUnits.{is_allowed_by}
use Rattle.pool_units.specs.Units.{Units}

-- the unit, where it waits
abbrev pub queued_window_unit : Units → Option UnitId → Option UnitId
queued_window_unit units None = None
queued_window_unit units (Some u) = (if has_listed_unit units.queue u then Some u else None)

-- the unit, where it may have the core
abbrev pub allowed_unit : Units → Option UnitId → ℕ → ℕ → Option UnitId
allowed_unit units None home core = None
allowed_unit units (Some u) home core = (if is_allowed_by units.affinity home core u then Some u else None)

-- the window's unit, where it waits and may have the core
abbrev pub eligible_window_unit : Units → Option UnitId → ℕ → ℕ → Option UnitId
eligible_window_unit units None home core = None
eligible_window_unit units (Some u) home core = (if has_listed_unit units.queue u && is_allowed_by units.affinity home core u then Some u else None)

-- the window's unit, where it is the core's own and may go on, or waits
abbrev pub chosen_window_unit : Units → Option UnitId → Ask → Option UnitId
chosen_window_unit units None ask = None
chosen_window_unit units (Some u) ask = (if is_unit ask.cur u && ask.runnable then Some u else eligible_window_unit units (Some u) ask.home.0 ask.core.0)

-- a unit that is another than the core's own
abbrev pub is_another_unit : Option UnitId → UnitId → Bool
is_another_unit None own = false
is_another_unit (Some u) own = not (same_unit u own)

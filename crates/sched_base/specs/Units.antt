-- The numbers of schedule units.
use Rattle.std.specs.Prelude.{ℕ, ◌==◌, ◌&&◌, Bool}
use Rattle.sched_base.specs.declared.UnitId.{UnitId}
use Rattle.sched_base.specs.Numbers.{domain}

-- the unit n of the domain d
abbrev pub unit_id : ℕ → ℕ → UnitId
unit_id d n = record { dom = domain d; n = n }

-- whether two units are the same
abbrev pub same_unit : UnitId → UnitId → Bool
same_unit u w = u.dom.0 == w.dom.0 && u.n == w.n

-- stands where there is no unit to name
abbrev pub no_unit : UnitId
no_unit = unit_id 0 0

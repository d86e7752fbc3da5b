-- The places of schedule units in tables: 32 for each of 64 domains.
use Rattle.std.specs.Prelude.{ℕ, ◌+◌, ◌*◌, ◌&&◌, Bool, Option, Some, None, nat_lt, if◌then◌else◌}
use Rattle.sched_base.specs.declared.UnitId.{UnitId}

-- whether the unit has a place
abbrev pub has_unit_place : UnitId → Bool
has_unit_place u = nat_lt u.dom.0 64 && nat_lt u.n 32

-- the number of the place of a unit that has one
abbrev pub unit_index : UnitId → ℕ
unit_index u = u.dom.0 * 32 + u.n

-- the number of its place, where it has one
abbrev pub unit_place_number : UnitId → Option ℕ
unit_place_number u = (if has_unit_place u then Some (unit_index u) else None)

-- the number of a unit; two units of one number are the same
abbrev pub number_of : UnitId → ℕ
number_of u = u.dom.0 * 256 + u.n

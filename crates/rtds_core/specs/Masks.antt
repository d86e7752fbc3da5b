-- The units that a change of sets of cores names.
use Rattle.std.specs.Prelude.{ℕ, ◌==◌, ◌&&◌, Bool, Option, Some, None, nat_lt}
use Rattle.sched_base.specs.declared.UnitId.{UnitId}

-- whether the unit is the named one of the domain, or one of all 32 that it may have
abbrev pub is_named : ℕ → Option ℕ → UnitId → Bool
is_named d None u = u.dom.0 == d && nat_lt u.n 32
is_named d (Some n) u = u.dom.0 == d && u.n == n

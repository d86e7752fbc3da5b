-- The marks of the units that wait.
use Rattle.std.specs.Prelude.{ℕ, ◌≡◌, ◌≤◌, ◌*◌, ◌&&◌, Bool, false, List, length, slice_index_or}
use Rattle.sched_base.specs.declared.UnitId.{UnitId}
use Rattle.sched_model.specs.Places.{has_listed_unit}
use Rattle.unit_places.specs.Places.{has_unit_place, unit_index}
use Rattle.pool_units.specs.Units.{Units, IsWhole}
use Rattle.sched_ops.specs.Affinity.{joined_unit_count}

-- whether the unit is marked
abbrev pub is_marked : List Bool → UnitId → Bool
is_marked marks u = has_unit_place u && slice_index_or marks (unit_index u) false

-- the units are whole; those that wait are marked, and no others; and each of the domains, at most 64 of at most 32 units, has 32 places
pub record IsMarked (marks : List Bool) (units : Units) : Type 0 where
  pub whole : IsWhole units
  pub waiting : (u : UnitId) → is_marked marks u ≡ has_listed_unit units.queue u
  pub places : length marks ≡ 32 * length units.affinity
  pub domains : length units.affinity ≤ 64
  pub few : (d : ℕ) → joined_unit_count units.affinity d ≤ 32

-- The units for which the cores of a null pool are kept, and the core that was last kept for each.
use Rattle.std.specs.Prelude.{ℕ, ◌≡◌, ◌≤◌, true, List, Option, Some, length, if◌then◌else◌}
use Rattle.sched_base.specs.Numbers.{core}
use Rattle.sched_base.specs.declared.ResId.{ResId}
use Rattle.sched_base.specs.declared.UnitId.{UnitId}
use Rattle.sched_model.specs.Places.{at_place, put_at}
use Rattle.unit_places.specs.Places.{has_unit_place, unit_index}

-- there are at most 64 cores, and no two of them are kept for one unit. Each place of a unit has room for a core, and that of a unit for which
-- one is kept has that core
pub record IsKept (kept : List (Option UnitId)) (lasts : List (Option ResId)) : Type 0 where
  pub few : length kept ≤ 64
  pub once : (q r : ℕ) (u : UnitId) → at_place kept q ≡ Some u → at_place kept r ≡ Some u → q ≡ r
  pub room : length lasts ≡ 2048
  pub last : (r : ℕ) (u : UnitId) → at_place kept r ≡ Some u → has_unit_place u ≡ true → at_place lasts (unit_index u) ≡ Some (core r)

-- once the core was kept for the unit
abbrev pub lasts_after : UnitId → ResId → List (Option ResId) → List (Option ResId)
lasts_after u c lasts = (if has_unit_place u then put_at (unit_index u) c lasts else lasts)

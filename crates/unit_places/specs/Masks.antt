-- The sets of cores of schedule units, by their places.
use Rattle.std.specs.Prelude.{List, slice_index_or, if◌then◌else◌}
use Rattle.sched_base.specs.CoreSets.{every_core}
use Rattle.sched_base.specs.declared.Cores.{Cores}
use Rattle.sched_base.specs.declared.UnitId.{UnitId}
use Rattle.unit_places.specs.Places.{has_unit_place, unit_index}

-- the set of a unit: all cores, where it has no place
abbrev pub mask_of : List Cores → UnitId → Cores
mask_of masks u = (if has_unit_place u then slice_index_or masks (unit_index u) every_core else every_core)

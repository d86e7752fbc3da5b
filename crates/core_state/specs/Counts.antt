-- How often each unit is a core's own or saved, by the units' places.
use Rattle.std.specs.Prelude.{ℕ, ◌≡◌, ◌+◌, true, List, Option, option_map, slice_index_or}
use Rattle.sched_base.specs.declared.Moment.{Moment}
use Rattle.sched_base.specs.declared.UnitId.{UnitId}
use Rattle.sched_model.specs.declared.state.Resource.{Resource}
use Rattle.sched_laws.specs.Counts.{over, total}
use Rattle.sched_laws.specs.PoolFacts.{core_places}
use Rattle.unit_places.specs.Places.{has_unit_place, unit_index}
use Rattle.core_state.specs.Seen.{chosen_core}

-- the count of a unit that has a place
abbrev pub count_of : List ℕ → UnitId → ℕ
count_of counts u = slice_index_or counts (unit_index u) 0

-- each unit that has a place is counted as often as the cores have it
abbrev pub AreCounts : List (Option Resource) → List ℕ → Type 0
AreCounts cores counts = (u : UnitId) → has_unit_place u ≡ true → count_of counts u ≡ total (core_places u) cores

-- the counts before and after the core decided
abbrev pub IsChosen : Option UnitId → Resource → List ℕ → List ℕ → Type 0
IsChosen unit core counts next =
    (t : ℕ) (due : Option Moment) (u : UnitId) → has_unit_place u ≡ true
    → count_of next u + core_places u core ≡ count_of counts u + core_places u (chosen_core t unit due core)

-- the same, where there is one
abbrev pub IsChoice : Option UnitId → Option Resource → List ℕ → List ℕ → Type 0
IsChoice unit core counts next =
    (t : ℕ) (due : Option Moment) (u : UnitId) → has_unit_place u ≡ true
    → count_of next u + over (core_places u) core ≡ count_of counts u + over (core_places u) (option_map (chosen_core t unit due) core)

-- Which cores are to decide anew, by the first units of the queue that may have them.
use Rattle.std.specs.Prelude.{ℕ, ◌≡◌, ◌<◌, ◌&&◌, ◌||◌, not, nat_lt, Bool, true, false, List, Option, Some, None, is_some}
use Rattle.sched_base.specs.CoreSets.{has_core_bit, is_core_allowed}
use Rattle.sched_base.specs.declared.Cores.{Cores}
use Rattle.sched_base.specs.declared.ResId.{ResId}
use Rattle.sched_base.specs.declared.UnitId.{UnitId}
use Rattle.sched_base.specs.Units.{same_unit}
use Rattle.unit_places.specs.Masks.{mask_of}
use Rattle.sched_model.specs.declared.state.RtdsUnit.{RtdsUnit}
use Rattle.arrival_queue.specs.Filters.{first_of, first_that, may_run}
use Rattle.rtds_queue.specs.Lists.{Lists, holds}
use Rattle.rtds_core.specs.declared.wanted.Ahead.{Ahead}
use Rattle.sched_model.specs.Rtds.{is_unit_before, unit_left_budget}
use Rattle.rtds_core.specs.Best.{is_waiting_first}

-- the first that waits and may have the core
abbrev pub first_for : Lists → List Cores → ResId → Cores → Option UnitId
first_for q masks core home = first_that (λ u. may_run masks core home u) q.eligible

-- whether the core's own unit, where it has one, is not allowed on it
abbrev pub is_own_barred : List Cores → Option UnitId → ResId → Cores → Bool
is_own_barred masks None core home = false
is_own_barred masks (Some own) core home = not (may_run masks core home own)

-- whether a core with this unit of its own is to decide anew: a unit waits for it while it has none, or its own is not allowed on it, or the
-- first that waits and may have it goes before its own
abbrev pub decides_anew : List (Option (List RtdsUnit)) → Lists → List Cores → Option UnitId → ResId → Cores → Bool
decides_anew domains q masks None core home = is_some (first_for q masks core home)
decides_anew domains q masks (Some own) core home = not (may_run masks core home own) || is_waiting_first domains (first_for q masks core home) own

-- whether a unit that waits makes a core with this unit of its own decide anew: it may be on the core, and that has none, or one that it goes before
abbrev pub is_outrun : List (Option (List RtdsUnit)) → Ahead → Option UnitId → ResId → Bool
is_outrun domains coming None core = has_core_bit coming.cores.0 core.0
is_outrun domains coming (Some own) core = has_core_bit coming.cores.0 core.0 && is_unit_before domains coming.unit own

-- whether the unit waits with budget left
abbrev pub is_ready : List (Option (List RtdsUnit)) → Lists → UnitId → Bool
is_ready domains q u = holds q u && nat_lt 0 (unit_left_budget domains u)

-- the first unit that waits with budget left, and the cores on which it may be
pub record IsAhead (q : Lists) (masks : List Cores) (home : Cores) (first : Ahead) : Type 0 where
  pub unit : first_of q.eligible ≡ Some first.unit
  pub cores : (r : ℕ) → r < 64 → has_core_bit first.cores.0 r ≡ is_core_allowed (mask_of masks first.unit).0 r home.0

-- another unit is the first that waits with budget left, and may be on each core of the pool
pub record StandsBehind (q : Lists) (masks : List Cores) (home : Cores) (u : UnitId) : Type 0 where
  pub first : UnitId
  pub unit : first_of q.eligible ≡ Some first
  pub other : same_unit u first ≡ false
  pub open_to : (r : ℕ) → r < 64 → is_core_allowed (mask_of masks first).0 r home.0 ≡ true

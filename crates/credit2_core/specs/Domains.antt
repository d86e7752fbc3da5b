-- Tables by domain.
use Rattle.std.specs.Prelude.{ℕ, ◌≡◌, ◌≢◌, ◌+◌, ◌*◌, ◌==◌, ◌&&◌, Bool, false, List, [], ◌∷◌, Option, Some, None, length, nat_lt, if◌then◌else◌, slice_index_or}
use Rattle.sched_base.specs.Numbers.{core_set}
use Rattle.unit_places.specs.Masks.{mask_of}
use Rattle.sched_base.specs.declared.Cores.{Cores}
use Rattle.sched_base.specs.declared.UnitId.{UnitId}
use Rattle.sched_model.specs.declared.state.Credit2Domain.{Credit2Domain}
use Rattle.sched_model.specs.Places.{at_place}
use Rattle.sched_model.specs.EligibleUnits.{has_cap_budget}
use Rattle.arrival_queue.specs.Filters.{has_core_bit}

-- 1 where the cap lets the domain run
abbrev pub may_run_bit : Option Credit2Domain → ℕ
may_run_bit None = 0
may_run_bit (Some d) = (if has_cap_budget d then 1 else 0)

-- the set of the domains that may run, with bit d for the domain d
abbrev pub set_of : List (Option Credit2Domain) → ℕ
set_of [] = 0
set_of (place ∷ domains) = may_run_bit place + 2 * set_of domains

-- whether the cap of the domain at the place lets it run
abbrev pub may_run_at : Option Credit2Domain → Bool
may_run_at place = elim place [ None ↦ false | Some d ↦ has_cap_budget d ]

-- the set is that of the domains that may run
pub record AreRunnable (domains : List (Option Credit2Domain)) (set : ℕ) : Type 0 where
  pub each : (i : ℕ) → has_core_bit set i ≡ may_run_at (at_place domains i)

-- the same of all domains but one
abbrev pub AreRunnableBut : ℕ → List (Option Credit2Domain) → ℕ → Type 0
AreRunnableBut d domains set = (i : ℕ) → i ≢ d → has_core_bit set i ≡ may_run_at (at_place domains i)

-- the unit's mask, once those of the first k of the domain's units are written into the table
abbrev pub masked_cores : List Cores → ℕ → List Cores → ℕ → UnitId → Cores
masked_cores masks d sets k u = (if u.dom.0 == d && nat_lt u.n k then slice_index_or sets u.n (core_set 0) else mask_of masks u)

-- the unit's mask, once the domain's are those of its sets of cores
abbrev pub refreshed_cores : List Cores → List (Option (List Cores)) → ℕ → UnitId → Cores
refreshed_cores masks affinity d u = elim (at_place affinity d) [ None ↦ mask_of masks u | Some sets ↦ masked_cores masks d sets (length sets) u ]

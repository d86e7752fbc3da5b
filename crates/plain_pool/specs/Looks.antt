-- What a look at the cores of a pool finds once.
use Rattle.std.specs.Prelude.{◌≡◌, ◌&&◌, ℕ, Bool, true, false, List, [], ◌∷◌, Option, Some, None, nat_lt, int_lt, if◌then◌else◌, ⊤}
use Rattle.sched_base.specs.declared.UnitId.{UnitId}
use Rattle.sched_model.specs.declared.state.Records.{Records}
use Rattle.sched_model.specs.declared.state.Records.TheVariants.{Credit2Pool, RtdsPool, ArincPool, NullPool}
use Rattle.sched_model.specs.declared.state.Scheduler.{Scheduler}
use Rattle.sched_model.specs.declared.state.Credit2Records.{Credit2Records}
use Rattle.sched_model.specs.declared.state.RtdsUnit.{RtdsUnit}
use Rattle.sched_model.specs.EligibleUnits.{is_unit_allowed}
use Rattle.sched_model.specs.Places.{has_listed_unit}
use Rattle.sched_model.specs.Policy.{is_unit_better}
use Rattle.sched_model.specs.Arinc.{current_window_unit}
use Rattle.sched_model.specs.Credit2.{unit_credit, has_domain_budget, most_weight}
use Rattle.sched_model.specs.Rtds.{unit_left_budget, is_unit_before}
use Rattle.plain_pool.specs.declared.look.BestWaiting.{BestWaiting}

-- the better of the best so far and a unit, where that passes; among equals the earlier
abbrev pub better : (UnitId → Bool) → (UnitId → UnitId → Bool) → Option UnitId → UnitId → Option UnitId
better passes before best u = if passes u && elim best [ None ↦ true | Some b ↦ before u b ] then Some u else best

-- the best of the best so far and of the units that follow
abbrev pub best_from : (UnitId → Bool) → (UnitId → UnitId → Bool) → Option UnitId → List UnitId → Option UnitId
best_from passes before best [] = best
best_from passes before best (u ∷ units) = best_from passes before (better passes before best u) units

-- whether the unit has more credit than the other
abbrev pub is_richer : Credit2Records → UnitId → UnitId → Bool
is_richer records u w = int_lt (unit_credit records w) (unit_credit records u)

-- whether budget is left to the unit
abbrev pub has_left : List (Option (List RtdsUnit)) → UnitId → Bool
has_left domains u = nat_lt 0 (unit_left_budget domains u)

-- the best of the waiting units that pass at t; a null pool has none, since there it hangs on the core whether one passes
abbrev pub best_waiting : Records → ℕ → List UnitId → Option UnitId
best_waiting (Credit2Pool records) t queue = best_from (has_domain_budget records) (is_richer records) None queue
best_waiting (RtdsPool domains) t queue = best_from (has_left domains) (is_unit_before domains) None queue
best_waiting (ArincPool records) t queue = elim (current_window_unit records t) [ None ↦ None | Some w ↦ if has_listed_unit queue w then Some w else None ]
best_waiting (NullPool kept) t queue = None

-- the greatest weight of a Credit2 pool
abbrev pub most_of : Records → ℕ
most_of (Credit2Pool records) = most_weight records
most_of _ = 0

-- the look has found them in the scheduler at t
pub record Finds (look : BestWaiting) (t : ℕ) (scheduler : Scheduler) : Type 0 where
  pub best : look.best ≡ best_waiting scheduler.records t scheduler.queue
  pub most : look.most ≡ most_of scheduler.records

-- whether it is the null scheduler
abbrev pub is_null : Records → Bool
is_null (NullPool kept) = true
is_null _ = false

-- whether the unit is better than the core's own, which is any where it has none
abbrev pub is_better_than : Records → Option UnitId → ℕ → ℕ → UnitId → Bool
is_better_than records None since t u = true
is_better_than records (Some cur) since t u = is_unit_better records cur since t u

-- the core's own unit, where it has one, may be there
abbrev pub IsOwnAllowed : Scheduler → ℕ → ℕ → Option UnitId → Type 0
IsOwnAllowed scheduler home core None = ⊤
IsOwnAllowed scheduler home core (Some cur) = is_unit_allowed scheduler home core cur ≡ true
